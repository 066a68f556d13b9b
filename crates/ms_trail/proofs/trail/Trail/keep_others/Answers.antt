use Rattle.std.proofs.Common.{◌∙◌, ◌≡◌, sym, ap, rules, SFits, w64, to_z, of_z}
use Rattle.std.specs.Prelude.{ℤ, pos, ◌+ℤ◌, ◌-ℤ◌}
use Rattle.std.proofs.lemmas.Int.{to_z-of_z}
use Rattle.ms_store.specs.Stored.{set_at, at_most, at_least, other_than}
use Rattle.ms_trail.specs.Trailed.{sets_of, slot_at}
use Rattle.ms_trail.proofs.Written.{reads}
use Rattle.ms_trail.proofs.Cutting.{cuts_same, other_at_least, other_at_most}
use Rattle.ms_trail.proofs.trail.Trail.keep_others.Goals as goal

same : (x y : ℤ) → SFits w64 x → SFits w64 y → of_z w64 y ≡ of_z w64 x → x ≡ y
same x y f g e = sym (to_z-of_z w64 x f) ∙ ap (to_z w64) (sym e) ∙ to_z-of_z w64 y g

pub returns-then-n-domain-clause-ok : goal.returns-then-n-domain-clause-ok
returns-then-n-domain-clause-ok c =
    let t = c.args.self.now in
    let n : SFits w64 c.args.n = search rules in
    let m : SFits w64 c.after.result = search rules in
    let r = reads t c.args.v c.args.domain (slot_at t c.args.v).1 c.requires.read in
    let lo : (set_at (sets_of t) c.args.v).lo ≡ c.args.n = sym r.lo ∙ same c.args.domain.lo c.args.n (search rules) n c.if-n-domain.true in
    let step : c.after.result ≡ c.args.n +ℤ pos 1 = rw (to_z-of_z w64 c.args.n n) at c.after.ensures in
    cuts_same (at_least c.after.result) (other_than c.args.n) c.args.v (sets_of t) (sets_of c.keep_at_least.new.self) (other_at_least (set_at (sets_of t) c.args.v) c.args.n c.after.result r.proper lo step) (rw (to_z-of_z w64 c.after.result m) at c.in_ok-keep_at_least.ensures.ok)

pub returns-then-n-domain-2-clause-ok : goal.returns-then-n-domain-2-clause-ok
returns-then-n-domain-2-clause-ok c =
    let t = c.args.self.now in
    let n : SFits w64 c.args.n = search rules in
    let m : SFits w64 c.before-then-n-domain-2.result = search rules in
    let r = reads t c.args.v c.args.domain (slot_at t c.args.v).1 c.requires.read in
    let hi : (set_at (sets_of t) c.args.v).hi ≡ c.args.n = sym r.hi ∙ same c.args.domain.hi c.args.n (search rules) n c.if-n-domain-2.true in
    let step : c.before-then-n-domain-2.result ≡ c.args.n -ℤ pos 1 = rw (to_z-of_z w64 c.args.n n) at c.before-then-n-domain-2.ensures in
    cuts_same (at_most c.before-then-n-domain-2.result) (other_than c.args.n) c.args.v (sets_of t) (sets_of c.keep_at_most.new.self) (other_at_most (set_at (sets_of t) c.args.v) c.args.n c.before-then-n-domain-2.result r.proper hi step) (rw (to_z-of_z w64 c.before-then-n-domain-2.result m) at c.in_ok-keep_at_most.ensures.ok)
