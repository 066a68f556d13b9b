use Rattle.std.proofs.Common.{◌≡◌, ◌<◌, ◌∙◌, ap, set, get_or, length, eqb, arith, rules}
use Rattle.ms_boxes.specs.Boxes.{box_of}
use Rattle.ms_session.proofs.Beginnings.{is_empty, not_empty}
use Rattle.ms_session.proofs.RangeBoxes.{read_some}
use Rattle.ms_session.proofs.Narrowings.{box_self, cut_away, cut_to}
use Rattle.ms_session.proofs.narrowing.cut.Goals as goal

pub returns-then-at-as_slice : goal.returns-then-at-as_slice
returns-then-at-as_slice c = record { box = box_self (box_of c.args.sets) c.requires; keeps = λ p i h. i }

pub is_within-requires : goal.is_within-requires
is_within-requires c =
    let within : c.args.bound.variable < length c.args.sets = let f = c.if-at-as_slice.false in let e = ap length c.as_slice.ensures in omega (arith, f, e) in
    read_some c.args.sets c.args.bound.variable c.index-as_slice-at.result within (c.index-as_slice-at.is ∙ ap (λ q. get_or q c.args.bound.variable c.index-as_slice-at.result) c.as_slice-2.ensures) c.requires

pub returns-then-is_within : goal.returns-then-is_within
returns-then-is_within c = record { box = box_self (box_of c.args.sets) c.requires; keeps = λ p i h. i }

pub returns-then-is_empty : goal.returns-then-is_empty
returns-then-is_empty c =
    let within : c.args.bound.variable < length c.args.sets = let f = c.if-at-as_slice.false in let e = ap length c.as_slice.ensures in omega (arith, f, e) in
    cut_away c.args.sets c.args.bound c.index-as_slice-at-2.result c.in_ok-kept.kept within (c.index-as_slice-at-2.is ∙ ap (λ q. get_or q c.args.bound.variable c.index-as_slice-at-2.result) c.as_slice-3.ensures) c.in_ok-kept.ensures.members
    (is_empty c.in_ok-kept.kept (c.if-is_empty.ensures ∙ ap (λ q. eqb (length q) 0) c.ranges-2.ensures.value))

pub returns : goal.returns
returns c =
    let within : c.args.bound.variable < length c.args.sets = let f = c.if-at-as_slice.false in let e = ap length c.as_slice.ensures in omega (arith, f, e) in
    let is : c.from_vec.result ≡ set c.args.sets c.args.bound.variable c.in_ok-kept.kept = search rules in
    cut_to c.args.sets c.from_vec.result c.args.bound c.index-as_slice-at-2.result c.in_ok-kept.kept within (c.index-as_slice-at-2.is ∙ ap (λ q. get_or q c.args.bound.variable c.index-as_slice-at-2.result) c.as_slice-3.ensures) c.requires c.in_ok-kept.ensures.members c.in_ok-kept.ensures.proper
    (not_empty c.in_ok-kept.kept (c.if-is_empty.ensures ∙ ap (λ q. eqb (length q) 0) c.ranges-2.ensures.value)) is
