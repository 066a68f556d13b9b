use Rattle.std.proofs.Common.{ℕ, Option, ◌≡◌, Some, None, position, sym, ◌∙◌}
use Rattle.ms_io.proofs.Entries.{is_at, files-found, files-missed}
use Rattle.ms_io.proofs.mem_files.MemFiles.hold.Goals as goal

pub returns-in-Some-clause-ok : goal.returns-in-Some-clause-ok
returns-in-Some-clause-ok c =
    let found : position (is_at c.args.name.now) c.self.inside.files.items ≡ Some c.in-Some.at =
    rw (← c.deref.ensures.value, ← c.as_bytes-name.ensures.value) (sym c.in-Some.ensures) in
    let name : c.from_vec.result ≡ c.args.name.now = c.from_vec.ensures ∙ c.in_ok-from_slice.ensures.items ∙ c.as_bytes-name.ensures.value in
    let bytes : c.from_vec-2.result ≡ c.args.bytes.now = c.from_vec-2.ensures ∙ c.in_ok-from_slice-2.ensures.items in
    rw (← c.self.view_is, name, bytes)
    (λ i. record {
      files = files-found c.self.inside.files.items c.args.name.now c.args.bytes.now _ found i;
      failing = c.self.inside.failing.items;
      calls = c.self.inside.calls;
      asked = c.self.inside.asked.items;
      faults = c.self.inside.faults;
    })

pub returns-in_ok-push-in-None-clause-ok : goal.returns-in_ok-push-in-None-clause-ok
returns-in_ok-push-in-None-clause-ok c =
    let missed : ◌≡◌ {A = Option ℕ} (position (is_at c.args.name.now) c.self.inside.files.items) None =
    rw (← c.deref.ensures.value, ← c.as_bytes-name.ensures.value) (sym c.in-None.ensures) in
    let name : c.from_vec.result ≡ c.args.name.now = c.from_vec.ensures ∙ c.in_ok-from_slice.ensures.items ∙ c.as_bytes-name.ensures.value in
    let bytes : c.from_vec-2.result ≡ c.args.bytes.now = c.from_vec-2.ensures ∙ c.in_ok-from_slice-2.ensures.items in
    rw (← c.self.view_is, c.in_ok-push-in-None.ensures.items, name, bytes)
    (λ i. record {
      files = files-missed c.self.inside.files.items c.args.name.now c.args.bytes.now missed i;
      failing = c.self.inside.failing.items;
      calls = c.self.inside.calls;
      asked = c.self.inside.asked.items;
      faults = c.self.inside.faults;
    })
