-- Values with marks between them, and the lists that trees keep of them.
use Rattle.std.proofs.Common.{◌≡◌, ◌<◌, ◌≤◌, List, [], ◌∷◌, ◌++◌, length, map, Option, Result, Ok, Err, Vec, Global, vec_len, IfOk, refl, sym, ap, ◌∙◌, arith, length-append}
use Rattle.std.proofs.lemmas.List.{length-map}
use Rattle.ms_syntax.specs.declared.token.Token.{Token}
use Rattle.ms_syntax.specs.declared.token.Symbol.TheVariants as s
use Rattle.ms_syntax.specs.Tree as x
use Rattle.ms_syntax.specs.Tree.{Ex, exs_of, gens_of, rows_of}
use Rattle.ms_syntax.specs.Grammar.{Tokens}
use Rattle.ms_cursor.specs.declared.stop.Stop.{Stop}
use Rattle.ms_cursor.specs.declared.stop.Stop.TheVariants.{Syntax, Deep, Memory}
use Rattle.ms_expressions.specs.declared.reach.Reach.{Reach}
use Rattle.ms_expressions.specs.declared.reach.Reach.TheVariants as reach
use Rattle.ms_cursor.specs.Kinds.{symbol}
use Rattle.ms_cursor.specs.Reading.{Out, ok, bad, deep, Parser, and_then, ◌>>=◌, pure, many, grown, separated, pair, into}
use Rattle.ms_cursor.specs.Reads.{Reads, Fails}
use Rattle.ms_expressions.specs.Rules.{a_binder, more_names, names, more, list, generator, more_generators, generators, more_rows, row_list}
use Rattle.ms_expressions.proofs.Loops.{then_grown}

module _ {A B : Type 0} (f : Token → Option A) (p : Parser B) (ts : Tokens) where
  -- the first was read
  pub after_first : (b : B) (r : Tokens) → p ts ≡ ok b r → grown (b ∷ []) (many f (λ a y. p) r) ≡ separated f p ts
  unfolding separated
  after_first b r h = sym (then_grown b (many f (λ a y. p) r)) ∙ ap (λ o. and_then o (λ x. many f (λ a y. p) >>= λ xs. pure (x ∷ xs))) (sym h)

  -- the first was not read
  pub first_fails : (stop : Stop) → Fails (p ts) stop → Fails (separated f p ts) stop
  unfolding separated
  first_fails Memory h = tt
  first_fails (Syntax n) h = ap (λ o. and_then o (λ x. many f (λ a y. p) >>= λ xs. pure (x ∷ xs))) h
  first_fails (Deep n) h = ap (λ o. and_then o (λ x. many f (λ a y. p) >>= λ xs. pure (x ∷ xs))) h

-- a list as another kind of list, which has a first value before a list of the others
module _ {A B C : Type 0} (of : List A → B) (cons : A → B → B) (each : (a : A) (rest : List A) → of (a ∷ rest) ≡ cons a (of rest)) (f : Token → Option C) (p : Parser A) where
  others : (a : A) (o : Out (List A)) → and_then (and_then (and_then o (λ xs. pure (of xs))) (λ b. pure {A = A × B} (a, b))) (λ r. pure (cons r.0 r.1)) ≡ and_then (and_then o (λ xs. pure (a ∷ xs))) (λ xs. pure (of xs))
  others a (ok xs r) = ap (λ v. ok v r) (sym (each a xs))
  others a (bad n) = refl
  others a (deep n) = refl

  with_first : (o : Out A) → and_then (and_then o (λ a. into of (many f (λ c y. p)) >>= λ b. pure {A = A × B} (a, b))) (λ r. pure (cons r.0 r.1)) ≡ and_then (and_then o (λ a. many f (λ c y. p) >>= λ xs. pure (a ∷ xs))) (λ xs. pure (of xs))
  with_first (ok a r) = others a (many f (λ c y. p) r)
  with_first (bad n) = refl
  with_first (deep n) = refl

  in_order : (ts : Tokens) → into (λ r. cons r.0 r.1) (pair p (into of (many f (λ a y. p)))) ts ≡ into of (separated f p) ts
  unfolding separated
  in_order ts = with_first (p ts)

pub names_are : (ts : Tokens) → names ts ≡ separated (symbol s.Comma) a_binder ts
unfolding names more_names separated
names_are ts = refl

module _ (inner : Reach → Parser Ex) (ts : Tokens) where
  pub list_is : list inner ts ≡ into exs_of (separated (symbol s.Comma) (inner reach.Any)) ts
  unfolding list more
  list_is = in_order exs_of x.ex (λ a rest. refl) (symbol s.Comma) (inner reach.Any) ts

  pub generators_are : generators inner ts ≡ into gens_of (separated (symbol s.Comma) (generator inner)) ts
  unfolding generators more_generators
  generators_are = in_order gens_of (λ r. x.gen r.0 r.1) (λ a rest. refl) (symbol s.Comma) (generator inner) ts

  pub rows_are : row_list inner ts ≡ into rows_of (separated (symbol s.Bar) (list inner)) ts
  unfolding row_list more_rows
  rows_are = in_order rows_of x.row (λ a rest. refl) (symbol s.Bar) (list inner) ts

-- what was read, as what it stands for in another form
pub reads_as : {X A B : Type 0} (view : X → A) (h : A → B) (o : Out A) (r : Result X Stop) (new : Tokens) → Reads view o r new → Reads (λ x. h (view x)) (and_then o (λ a. pure (h a))) r new
reads_as view h o (Ok x) new e = ap (λ o. and_then o (λ a. pure (h a))) e
reads_as view h o (Err Memory) new e = tt
reads_as view h o (Err (Syntax n)) new e = ap (λ o. and_then o (λ a. pure (h a))) e
reads_as view h o (Err (Deep n)) new e = ap (λ o. and_then o (λ a. pure (h a))) e

-- what was found is kept, so that a list that had a value has one
grown_length : {X A : Type 0} (view : X → A) (o : Out (List A)) (found : List X) (items : List X) (r : Tokens) → grown (map view found) o ≡ ok (map view items) r → length found ≤ length items
grown_length view (ok xs t) found items r e =
    let same : map view found ++ xs ≡ map view items = cc in
    omega (arith, ap length same, length-append (map view found) xs, length-map found view, length-map items view)
grown_length view (bad n) found items r e = absurd (let wrong : bad n ≡ ok (map view items) r = e in cc)
grown_length view (deep n) found items r e = absurd (let wrong : deep n ≡ ok (map view items) r = e in cc)

pub some_read : {X A : Type 0} (view : X → A) (o : Out (List A)) (found before : List X) (x : X) → found ≡ before ++ x ∷ [] → (r : Result (Vec X Global) Stop) (new : Tokens) → Reads (λ v. map view v.items) (grown (map view found) o) r new → IfOk r (λ v. 0 < vec_len v)
some_read view o found before x h (Ok v) new e =
    let n : length found ≤ length v.items = grown_length view o found v.items new e in
    let m : vec_len v ≡ length v.items = v.ok.0 in
    omega (arith, ap length h, length-append before (x ∷ []), n, m)
some_read view o found before x h (Err s) new e = tt
