use Rattle.std.proofs.Common.{sym, ◌∙◌, ◌+◌, ◌≡◌, suc, arith, ℕ, SFits, w64, rules}
use Rattle.std.proofs.lemmas.Int.{to_z-of_z}
use Rattle.ms_domains.proofs.Parts.{size_whole}
use Rattle.ms_domains.proofs.domain.Domain.between.Goals as goal

end_suc : (n : ℕ) → n + 1 ≡ suc n
end_suc n = omega arith

pub returns-clause-size : goal.returns-clause-size
returns-clause-size c =
    let lo : SFits w64 c.args.lo = search rules in
    let hi : SFits w64 c.args.hi = search rules in
    end_suc c.distance.result ∙ sym (size_whole c.args.lo c.args.hi c.distance.result (sym (rw (to_z-of_z w64 c.args.hi hi, to_z-of_z w64 c.args.lo lo) at c.distance.ensures)))
