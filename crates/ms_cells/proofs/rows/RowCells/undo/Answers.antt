use Rattle.std.proofs.Common.{sym, ap, ◌∙◌, ◌≡◌, ◌<◌, arith, inl}
use Rattle.ms_cells.proofs.Rowed.{saved_length, saved_take, saved_get, undo_rowed}
use Rattle.ms_cells.proofs.rows.RowCells.undo.Goals as goal

pub undo-requires : goal.undo-requires
undo-requires g c = omega (arith, rw (← c.self.view_is) at c.requires, saved_length c.self.inside.places.items c.self.inside.values.saved c.self.inside.words.saved c.self.invariant.marks)

pub undo-requires-2 : goal.undo-requires-2
undo-requires-2 g c = omega (arith, rw (← c.self.view_is) at c.requires, saved_length c.self.inside.places.items c.self.inside.values.saved c.self.inside.words.saved c.self.invariant.marks, c.self.invariant.marks)

pub invariant_of-self : goal.invariant_of-self
invariant_of-self g c = undo_rowed c.self.inside.places.items c.self.inside.values c.undo.new.self c.self.inside.words c.undo-2.new.self c.args.number c.self.invariant c.undo.ensures.now c.undo-2.ensures.now (omega (arith, rw (← c.self.view_is) at c.requires, saved_length c.self.inside.places.items c.self.inside.values.saved c.self.inside.words.saved c.self.invariant.marks)) (inl (c.undo.ensures.saved, c.undo-2.ensures.saved))

pub returns-clause-now : goal.returns-clause-now
returns-clause-now g c = rw (← c.self.view_is) (saved_get c.self.inside.places.items c.self.inside.values.saved c.self.inside.words.saved c.args.number c.undo.new.self.current c.undo-2.new.self.current c.undo.ensures.now c.undo-2.ensures.now)

pub returns-clause-saved : goal.returns-clause-saved
returns-clause-saved g c = rw (c.undo.ensures.saved, c.undo-2.ensures.saved, ← c.self.view_is) (sym (saved_take c.self.inside.places.items c.args.number c.self.inside.values.saved c.self.inside.words.saved))
