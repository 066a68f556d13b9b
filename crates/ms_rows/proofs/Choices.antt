-- What is asked of all conditions, as the code and as the rows say it.
use Rattle.std.proofs.Common.{◌≡◌, true, not, List, [], ◌∷◌, length, map, replicate, refl, ap}
use Rattle.ms_typing.specs.declared.types.ExprType.{ExprType}
use Rattle.ms_typing.specs.Conversion.{known_of, truths}
use Rattle.ms_typing.specs.Meaning.{is_search}
use Rattle.ms_typing.specs.Row.{search_condition}

pub all_asked : (cs : List ExprType) → map (λ (c : ExprType). truths true) cs ≡ replicate (length cs) (truths true)
all_asked [] = refl
all_asked (c ∷ cs) = ap (λ ts. truths true ∷ ts) (all_asked cs)

pub own_asked : (cs : List ExprType) → map (λ (c : ExprType). truths (known_of c)) cs ≡ map truths (map known_of cs)
own_asked [] = refl
own_asked (c ∷ cs) = ap (λ ts. truths (known_of c) ∷ ts) (own_asked cs)

pub search_asked : (cs : List ExprType) → map (λ (c : ExprType). search_condition (not (is_search c))) cs ≡ map search_condition (map (λ (c : ExprType). not (is_search c)) cs)
search_asked [] = refl
search_asked (c ∷ cs) = ap (λ ts. search_condition (not (is_search c)) ∷ ts) (search_asked cs)
