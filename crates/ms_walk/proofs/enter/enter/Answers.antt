use Rattle.std.proofs.Common.{refl, true, false}
use Rattle.ms_walk.proofs.Bodies.{shows}
use Rattle.ms_walk.proofs.Entered.{into_number, into_truth, into_text, into_name, into_chain, into_prefix, into_parenthesis, into_access, into_call, into_gathered, into_repeat, into_array, into_rows, into_set, into_comprehension, into_choice, into_locals, into_convert}
use Rattle.ms_walk.proofs.enter.enter.Goals as goal

pub returns-in-Number : goal.returns-in-Number
returns-in-Number c out here ws = shows out _ _ _ _ _ _ _ (into_number out here _ _ _ _ _ _ c.in-Number.is) (rw c.literal.ensures at (c.visit.ensures out c.args.frames.now here ws))

pub returns-in-Truth : goal.returns-in-Truth
returns-in-Truth c out here ws = shows out _ _ _ _ _ _ _ (into_truth out here _ _ _ _ _ _ c.in-Truth.is) (c.visit-in-Truth.ensures out _ here ws)

pub returns-in_ok-x-in-Text : goal.returns-in_ok-x-in-Text
returns-in_ok-x-in-Text c out here ws = shows out _ _ _ _ _ _ _ (into_text out here _ _ _ _ _ _ c.in-Text.is) (rw c.in_ok-x-in-Text.ensures at (c.visit-in-Text.ensures out c.args.frames.now here ws))

pub returns-in-Name : goal.returns-in-Name
returns-in-Name c out here ws = into_name out here _ _ _ _ _ _ c.in-Name.is

pub returns-in_ok-push-in-Chain : goal.returns-in_ok-push-in-Chain
returns-in_ok-push-in-Chain c out here ws = into_chain out _ _ here _ _ _ _ c.as_slice.result _ _ c.in-Chain.is c.get-first.ensures c.as_slice.ensures c.in_ok-push-in-Chain.ensures.ok

pub returns-in_ok-push-in-Prefix : goal.returns-in_ok-push-in-Prefix
returns-in_ok-push-in-Prefix c out here ws = into_prefix out _ _ here _ _ _ _ _ _ _ c.in-Prefix.is c.get-first-in-Prefix.ensures c.in_ok-push-in-Prefix.ensures.ok

pub returns-in_ok-push-in-Parenthesis : goal.returns-in_ok-push-in-Parenthesis
returns-in_ok-push-in-Parenthesis c out here ws = into_parenthesis out _ _ here _ _ _ _ _ _ c.in-Parenthesis.is c.get-first-in-Parenthesis.ensures c.in_ok-push-in-Parenthesis.ensures.ok

pub returns-in_ok-push-in-Access : goal.returns-in_ok-push-in-Access
returns-in_ok-push-in-Access c out here ws = into_access out _ _ here _ _ _ _ _ c.as_slice-in-Access.result _ _ c.in-Access.is c.get-first-in-Access.ensures c.as_slice-in-Access.ensures c.in_ok-push-in-Access.ensures.ok

pub returns-in-Call : goal.returns-in-Call
returns-in-Call c out here ws = shows out _ _ _ _ _ _ _ (into_call out here _ _ _ _ _ _ _ c.in-Call.is) (rw (c.as_slice-in-Call.ensures, c.new.ensures) at (c.gather.ensures out here c.args.left.now ws))

pub returns-in-Gathered : goal.returns-in-Gathered
returns-in-Gathered c out here ws = shows out _ _ _ _ _ _ _ (into_gathered out here _ _ _ _ _ (record { place = c.in-Gathered.p; is_node = false; condition = c.condition.result; body = c.get.result }) _ _ _ c.in-Gathered.is c.get.ensures c.condition.ensures refl refl) (rw c.as_slice-in-Gathered.ensures at (c.generate.ensures out here c.args.left.now ws))

pub returns-in-RepeatEach : goal.returns-in-RepeatEach
returns-in-RepeatEach c out here ws = shows out _ _ _ _ _ _ _ (into_repeat out here _ _ _ _ _ _ _ c.in-RepeatEach.is) (c.visit-in-RepeatEach.ensures out _ here ws)

pub returns-in-Array : goal.returns-in-Array
returns-in-Array c out here ws = shows out _ _ _ _ _ _ _ (into_array out here _ _ _ _ c.as_slice-in-Array.result _ _ _ c.in-Array.is c.as_slice-in-Array.ensures) (rw (c.empty-cells.ensures, c.kind_of_type.ensures) at (c.begin.ensures out c.args.frames.now here c.args.left.now ws))

pub returns-in-Rows : goal.returns-in-Rows
returns-in-Rows c out here ws = shows out _ _ _ _ _ _ _ (into_rows out here _ _ _ _ _ _ _ c.in-Rows.is) (rw c.as_slice-in-Rows.ensures at (c.begin_rows.ensures out c.args.frames.now here ws))

pub returns-in-Set : goal.returns-in-Set
returns-in-Set c out here ws = shows out _ _ _ _ _ _ _ (into_set out here _ _ _ c.as_slice-in-Set.result _ _ _ c.in-Set.is c.as_slice-in-Set.ensures) (rw c.new-in-Set.ensures at (c.begin-in-Set.ensures out c.args.frames.now here c.args.left.now ws))

pub returns-in-Comprehension : goal.returns-in-Comprehension
returns-in-Comprehension c out here ws = shows out _ _ _ _ _ _ _ (into_comprehension out here _ _ _ _ _ (record { place = c.in-Comprehension.p; is_node = true; condition = c.condition-in-Comprehension.result; body = c.get-in-Comprehension.result }) _ _ _ c.in-Comprehension.is c.get-in-Comprehension.ensures c.condition-in-Comprehension.ensures refl refl) (rw c.as_slice-in-Comprehension.ensures at (c.generate-in-Comprehension.ensures out here c.args.left.now ws))

pub returns-in_ok-push-in-If : goal.returns-in_ok-push-in-If
returns-in_ok-push-in-If c out here ws = shows out _ _ _ _ _ _ _ (into_choice out _ _ here _ _ _ _ c.get-other.result _ _ c.in-If.is c.get-other.ensures c.in_ok-push-in-If.ensures.ok) (rw c.as_slice-in-If.ensures at (c.choose_arm.ensures out here c.args.left.now ws))

pub returns-in_ok-push-in-Let : goal.returns-in_ok-push-in-Let
returns-in_ok-push-in-Let c out here ws = shows out _ _ _ _ _ _ _ (into_locals out _ _ here _ _ _ _ c.get-body.result _ _ c.in-Let.is c.get-body.ensures c.in_ok-push-in-Let.ensures.ok) (rw c.as_slice-in-Let.ensures at (c.bind.ensures out here c.args.left.now ws))

pub returns-in_ok-push-in-Convert : goal.returns-in_ok-push-in-Convert
returns-in_ok-push-in-Convert c out here ws = into_convert out _ _ here _ _ _ _ _ _ c.in-Convert.is c.get-first-in-Convert.ensures c.in_ok-push-in-Convert.ensures.ok
