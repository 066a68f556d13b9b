use Rattle.std.proofs.Common.{ℕ, Option, ◌≡◌, Some, None, position, ap, sym, ◌∙◌}
use Rattle.ms_io.proofs.Entries.{is_at, get-found, get-missed}
use Rattle.ms_io.proofs.mem_files.MemFiles.bytes_of.Goals as goal

pub returns-in_err-at : goal.returns-in_err-at
returns-in_err-at c =
    let missed : ◌≡◌ {A = Option ℕ} (position (is_at c.args.name.now) c.self.inside.files.items) None =
    rw (← c.deref.ensures.value) (sym (c.in_err-at.ensures)) in
    rw (c.from_residual.ensures, ← c.self.view_is) (sym (get-missed _ _ missed))

pub returns : goal.returns
returns c =
    let found : position (is_at c.args.name.now) c.self.inside.files.items ≡ Some c.in_ok-at.at =
    rw (← c.deref.ensures.value) (sym (c.in_ok-at.ensures)) in
    rw (← c.self.view_is, get-found _ _ _ c.index.result.now found) (ap Some (c.as_slice.ensures ∙ ap (λ e. e.1) c.index.ensures))
