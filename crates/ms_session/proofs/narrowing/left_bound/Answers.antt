use Rattle.ms_num.specs.Sets.{spans_of}
use Rattle.ms_boxes.specs.Boxes.{box_of}
use Rattle.ms_session.proofs.Narrowings.{equal_parts, ordered_parts, strict_parts, eq_left, le_left, lt_left}
use Rattle.ms_session.proofs.narrowing.left_bound.Goals as goal

pub tied-requires-clause-fit : goal.tied-requires-clause-fit
tied-requires-clause-fit c = rw c.get-in-Eq.ensures (equal_parts (spans_of (box_of c.args.sets.now)) c.args.constraint.now c.in-Eq.a c.in-Eq.b c.in-Eq.is c.requires.fit.fit).right

pub tied-requires-clause-number : goal.tied-requires-clause-number
tied-requires-clause-number c = rw c.get-in-Eq.ensures (equal_parts (spans_of (box_of c.args.sets.now)) c.args.constraint.now c.in-Eq.a c.in-Eq.b c.in-Eq.is c.requires.fit.fit).right_numeric

pub returns-in-Eq : goal.returns-in-Eq
returns-in-Eq c = eq_left (spans_of (box_of c.args.sets.now)) c.args.constraint.now c.in-Eq.a c.in-Eq.b c.tied.result c.in-Eq.is (rw (c.get.ensures, c.get-in-Eq.ensures) at c.tied.ensures)

pub tied-requires-in-Le-clause-fit : goal.tied-requires-in-Le-clause-fit
tied-requires-in-Le-clause-fit c = rw c.get-in-Le-2.ensures (ordered_parts (spans_of (box_of c.args.sets.now)) c.args.constraint.now c.in-Le.a c.in-Le.b c.in-Le.is c.requires.fit.fit).right

pub tied-requires-in-Le-clause-number : goal.tied-requires-in-Le-clause-number
tied-requires-in-Le-clause-number c = rw c.get-in-Le-2.ensures (ordered_parts (spans_of (box_of c.args.sets.now)) c.args.constraint.now c.in-Le.a c.in-Le.b c.in-Le.is c.requires.fit.fit).right_numeric

pub returns-in-Le : goal.returns-in-Le
returns-in-Le c = le_left (spans_of (box_of c.args.sets.now)) c.args.constraint.now c.in-Le.a c.in-Le.b c.tied-in-Le.result c.in-Le.is (rw (c.get-in-Le.ensures, c.get-in-Le-2.ensures) at c.tied-in-Le.ensures)

pub tied-requires-in-Lt-clause-fit : goal.tied-requires-in-Lt-clause-fit
tied-requires-in-Lt-clause-fit c = rw c.get-in-Lt-2.ensures (strict_parts (spans_of (box_of c.args.sets.now)) c.args.constraint.now c.in-Lt.a c.in-Lt.b c.in-Lt.is c.requires.fit.fit).right

pub tied-requires-in-Lt-clause-number : goal.tied-requires-in-Lt-clause-number
tied-requires-in-Lt-clause-number c = rw c.get-in-Lt-2.ensures (strict_parts (spans_of (box_of c.args.sets.now)) c.args.constraint.now c.in-Lt.a c.in-Lt.b c.in-Lt.is c.requires.fit.fit).right_numeric

pub returns-in-Lt : goal.returns-in-Lt
returns-in-Lt c = lt_left (spans_of (box_of c.args.sets.now)) c.args.constraint.now c.in-Lt.a c.in-Lt.b c.tied-in-Lt.result c.in-Lt.is (rw (c.get-in-Lt.ensures, c.get-in-Lt-2.ensures) at c.tied-in-Lt.ensures)
