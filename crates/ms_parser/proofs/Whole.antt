-- An expression that is all of the tokens.
use Rattle.std.proofs.Common.{◌≡◌, suc, [], ◌∷◌, length, refl, sym, ap, ◌∙◌}
use Rattle.ms_syntax.specs.Tree.{Ex}
use Rattle.ms_syntax.specs.Grammar.{Tokens}
use Rattle.ms_cursor.specs.declared.stop.Stop.{Stop}
use Rattle.ms_cursor.specs.declared.stop.Stop.TheVariants.{Syntax, Deep, Memory}
use Rattle.ms_expressions.specs.declared.reach.Reach.TheVariants as reach
use Rattle.ms_cursor.specs.Reading.{Out, ok, bad, deep, and_then, finish}
use Rattle.ms_cursor.specs.Reads.{Fails}
use Rattle.ms_expressions.specs.Rules.{under}
use Rattle.ms_parser.specs.Items.{statement}

finished : (e : Ex) (r : Tokens) → finish (tt {0}) r ≡ ok (tt {0}) [] → finish e r ≡ ok e []
finished e [] h = refl
finished e (y ∷ r) h = absurd (let wrong : ◌≡◌ {A = Out (Unit {0})} (bad (suc (length r))) (ok (tt {0}) []) = h in cc)

unfinished : (e : Ex) (r : Tokens) (fault : Stop) → Fails (finish (tt {0}) r) fault → Fails (finish e r) fault
unfinished e r Memory h = tt
unfinished e [] (Syntax n) h = absurd (let wrong : ◌≡◌ {A = Out (Unit {0})} (ok (tt {0}) []) (bad n) = h in cc)
unfinished e (y ∷ r) (Syntax n) h = let same : suc (length r) ≡ n = let g : ◌≡◌ {A = Out (Unit {0})} (bad (suc (length r))) (bad n) = h in cc in ap bad same
unfinished e [] (Deep n) h = absurd (let wrong : ◌≡◌ {A = Out (Unit {0})} (ok (tt {0}) []) (deep n) = h in cc)
unfinished e (y ∷ r) (Deep n) h = absurd (let wrong : ◌≡◌ {A = Out (Unit {0})} (bad (suc (length r))) (deep n) = h in cc)

then_fails : (o : Out Ex) (fault : Stop) → Fails o fault → Fails (and_then o finish) fault
then_fails o Memory h = tt
then_fails o (Syntax n) h = ap (λ o. and_then o finish) h
then_fails o (Deep n) h = ap (λ o. and_then o finish) h

at_finish : (o : Out Ex) (e : Ex) (r : Tokens) (fault : Stop) → o ≡ ok e r → Fails (finish e r) fault → Fails (and_then o finish) fault
at_finish o e r Memory h g = tt
at_finish o e r (Syntax n) h g = ap (λ o. and_then o finish) h ∙ g
at_finish o e r (Deep n) h g = ap (λ o. and_then o finish) h ∙ g

module _ (ts now : Tokens) (all : now ≡ ts) where
  pub whole_ok : (e : Ex) (r : Tokens) → under 201 reach.Any now ≡ ok e r → finish (tt {0}) r ≡ ok (tt {0}) [] → statement ts ≡ ok e []
  unfolding statement
  whole_ok e r h g = ap (λ t. and_then (under 201 reach.Any t) finish) (sym all) ∙ ap (λ o. and_then o finish) h ∙ finished e r g

  at_all : (fault : Stop) → Fails (and_then (under 201 reach.Any now) finish) fault → Fails (statement ts) fault
  unfolding statement
  at_all Memory h = tt
  at_all (Syntax n) h = ap (λ t. and_then (under 201 reach.Any t) finish) (sym all) ∙ h
  at_all (Deep n) h = ap (λ t. and_then (under 201 reach.Any t) finish) (sym all) ∙ h

  pub whole_unread : (fault : Stop) → Fails (under 201 reach.Any now) fault → Fails (statement ts) fault
  whole_unread fault h = at_all fault (then_fails (under 201 reach.Any now) fault h)

  pub whole_unfinished : (e : Ex) (r : Tokens) (fault : Stop) → under 201 reach.Any now ≡ ok e r → Fails (finish (tt {0}) r) fault → Fails (statement ts) fault
  whole_unfinished e r fault h g = at_all fault (at_finish (under 201 reach.Any now) e r fault h (unfinished e r fault g))
