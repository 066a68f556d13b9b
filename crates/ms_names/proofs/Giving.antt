-- What an item gives a value to, by the number of its name and what it means.
use Rattle.std.proofs.Common.{◌≡◌, ℕ, suc, true, false, List, [], ◌∷◌, Option, None, Some, option_map, refl, ap, ◌∙◌, if◌then◌else◌}
use Rattle.std.specs.Str.{bytes_eq}
use Rattle.ms_typing.specs.declared.types.ExprType.{ExprType}
use Rattle.ms_typing.specs.Meaning.{Globals, Meaning, declared}
use Rattle.ms_typing.specs.Meaning as m
use Rattle.ms_code.specs.Items.{value_among}
use Rattle.ms_code.specs.References.{number_among}
use Rattle.ms_names.specs.Assigned.{valued}

later : (o : Option ℕ) (p : Option Meaning) → option_map {T = ℕ × ExprType} {U = ℕ × ExprType} (λ r. (suc r.0, r.1)) (valued o p) ≡ valued (option_map suc o) p
later None p = refl
later (Some n) None = refl
later (Some n) (Some (m.value t)) = refl
later (Some n) (Some (m.function us t)) = refl
later (Some n) (Some (m.built_in b)) = refl

pub value_by : (gs : Globals) (w : List ℕ) → value_among gs w ≡ valued (number_among gs w) (declared gs w)
value_by [] w = refl
value_by ((u, m.value t) ∷ gs) w =
    elim (bytes_eq u w) as (λ b. (if b then Some (0, t) else option_map (λ r. (suc r.0, r.1)) (value_among gs w))
    ≡ valued (if b then Some 0 else option_map suc (number_among gs w)) (if b then Some (m.value t) else declared gs w))
    [ true ↦ refl | false ↦ ap (option_map (λ r. (suc r.0, r.1))) (value_by gs w) ∙ later (number_among gs w) (declared gs w) ]
value_by ((u, m.function us t) ∷ gs) w =
    elim (bytes_eq u w) as (λ b. (if b then None else option_map (λ r. (suc r.0, r.1)) (value_among gs w))
    ≡ valued (if b then Some 0 else option_map suc (number_among gs w)) (if b then Some (m.function us t) else declared gs w))
    [ true ↦ refl | false ↦ ap (option_map (λ r. (suc r.0, r.1))) (value_by gs w) ∙ later (number_among gs w) (declared gs w) ]
value_by ((u, m.built_in c) ∷ gs) w =
    elim (bytes_eq u w) as (λ b. (if b then None else option_map (λ r. (suc r.0, r.1)) (value_among gs w))
    ≡ valued (if b then Some 0 else option_map suc (number_among gs w)) (if b then Some (m.built_in c) else declared gs w))
    [ true ↦ refl | false ↦ ap (option_map (λ r. (suc r.0, r.1))) (value_by gs w) ∙ later (number_among gs w) (declared gs w) ]
