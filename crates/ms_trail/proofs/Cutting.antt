-- What cuts of a trail leave.
use Rattle.std.proofs.Common.{◌≡◌, ℕ, ◌<◌, List, [], ◌∷◌, length, set, refl, sym, ap, ◌∙◌, subst, arith, Bool, true, false, ◌&&◌, ◌||◌, not, Result, Ok, Err, IfOk}
use Rattle.std.specs.Prelude.{ℤ, pos, ◌+ℤ◌, ◌-ℤ◌, ◌≤ℤ◌, ◌<ℤ◌, int_le, slice_set, slice_index_or, ◌≢◌}
use Rattle.std.proofs.lemmas.Int.{ints}
use Rattle.std.proofs.Math.Path.{fun_ext}
use Rattle.ms_num.specs.Numbers.{int_eq}
use Rattle.ms_num.specs.Span.{Span}
use Rattle.ms_num.specs.Ranges.{IsRanges, is_member}
use Rattle.ms_num.specs.Sets.{Set, IsSet, IsCut, set_size, set_of, lo_of, kept, cut_set, first_from, last_from, width}
use Rattle.ms_num.specs.Laws.{CutsAreOne, CutIsCut}
use Rattle.ms_num.proofs.SharedSpans.{le_from, of_le}
use Rattle.ms_num.proofs.SharedMembers.{same_tests}
use Rattle.ms_num.proofs.SharedSets.{ranges_set, not_le}
use Rattle.ms_cells.specs.Cells.{Lists}
use Rattle.ms_domains.specs.declared.domain.Domain.{Domain}
use Rattle.ms_domains.specs.declared.domain.Holes.{Holes}
use Rattle.ms_domains.specs.declared.domain.Holes.TheVariants.{Listed}
use Rattle.ms_domains.specs.Bounded.{bounded}
use Rattle.ms_domains.specs.Domains.{is_there, domain_set, IsReadable, IsDomain, IsFree}
use Rattle.ms_domains.proofs.SharedBounded.{bounded_is}
use Rattle.ms_trail.proofs.Filling.{domain_unlisted, whole_of}
use Rattle.ms_store.specs.Stored.{set_at, at_most, at_least, other_than, AllStay, NoneStays, Cuts}
use Rattle.ms_store.proofs.SharedCuts.{smaller, cuts_written}
use Rattle.ms_trail.specs.Spread.{IsUnlisted}
use Rattle.ms_trail.specs.Trailed.{Trailed, sets_of, IsAt, written}
use Rattle.ms_trail.proofs.Written.{written_sets, any_lists}

-- ---- which numbers pass

pub eq_same : (n : ℤ) → int_eq n n ≡ true
eq_same n = both (int_le n n) (int_le n n) (of_le n n (omega (arith, ints))) (of_le n n (omega (arith, ints)))
  where
    both : (a b : Bool) → a ≡ true → b ≡ true → (a && b) ≡ true
    both a b e f = ap (λ x. x && b) e ∙ f

pub not_eq : (y n : ℤ) → (y ≡ n → ⊥) → int_eq y n ≡ false
not_eq y n d = by_value (int_le y n) (int_le n y) refl refl
  where
    by_value : (a b : Bool) → int_le y n ≡ a → int_le n y ≡ b → int_eq y n ≡ false
    by_value false b e f = ap (λ x. x && int_le n y) e
    by_value true false e f = ap (λ x. x && int_le n y) e ∙ f
    by_value true true e f = absurd (d (let p = le_from y n e in let q = le_from n y f in omega (arith, ints, p, q)))

pub passes_other : (y n : ℤ) → (y ≡ n → ⊥) → other_than n y ≡ true
passes_other y n d = ap not (not_eq y n d)

pub goes_other : (n : ℤ) → other_than n n ≡ false
goes_other n = ap not (eq_same n)

pub all_at_most : (s : Set) (n : ℤ) → IsSet s → s.hi ≤ℤ n → AllStay (at_most n) s
all_at_most s n i b = λ z m. of_le z n (let t = i.to z m in omega (arith, ints, t, b))

pub none_at_most : (s : Set) (n : ℤ) → IsSet s → n <ℤ s.lo → NoneStays (at_most n) s
none_at_most s n i b = λ z m. not_le n z (let f = i.from z m in omega (arith, ints, f, b))

pub all_at_least : (s : Set) (n : ℤ) → IsSet s → n ≤ℤ s.lo → AllStay (at_least n) s
all_at_least s n i b = λ z m. of_le n z (let f = i.from z m in omega (arith, ints, f, b))

pub none_at_least : (s : Set) (n : ℤ) → IsSet s → s.hi <ℤ n → NoneStays (at_least n) s
none_at_least s n i b = λ z m. not_le z n (let t = i.to z m in omega (arith, ints, t, b))

pub all_others : (s : Set) (n : ℤ) → s.has n ≡ false → AllStay (other_than n) s
all_others s n f z m = passes_other z n (λ e. absurd (let q : s.has z ≡ s.has n = ap s.has e in cc))

pub none_other : (s : Set) (n : ℤ) → IsSet s → s.lo ≡ s.hi → s.has n ≡ true → NoneStays (other_than n) s
none_other s n i e h z m =
    let a = i.from z m in
    let b = i.to z m in
    let c = i.from n h in
    let d = i.to n h in
    let q : z ≡ n = omega (arith, ints, a, b, c, d, e) in
    ap (other_than n) q ∙ goes_other n

-- ---- a cut by another test that says the same of each number of the set

keeps_same : (keep pass : ℤ → Bool) (s : Set) → ((z : ℤ) → s.has z ≡ true → keep z ≡ pass z) → kept keep s ≡ kept pass s
keeps_same keep pass s h = fun_ext (λ z. by_value z (s.has z) refl)
  where
    by_value : (z : ℤ) (b : Bool) → s.has z ≡ b → (s.has z && keep z) ≡ (s.has z && pass z)
    by_value z true e = ap (λ b. s.has z && b) (h z e)
    by_value z false e = ap (λ b. b && keep z) e ∙ sym (ap (λ b. b && pass z) e)

abbrev kept_set : Set → (ℤ → Bool) → Set
kept_set s f = record { lo = first_from f s.lo (width (s.hi -ℤ s.lo)); hi = last_from f s.hi (width (s.hi -ℤ s.lo)); has = f }

pub cuts_same : (keep pass : ℤ → Bool) (v : ℕ) (old new : Lists Set) → ((z : ℤ) → (set_at old v).has z ≡ true → keep z ≡ pass z) → Cuts keep v old new → Cuts pass v old new
cuts_same keep pass v old new h c =
    let k = keeps_same keep pass (set_at old v) h in
    let e : cut_set keep (set_at old v) ≡ cut_set pass (set_at old v) = ap (kept_set (set_at old v)) k in
    let i : IsCut pass (set_at old v) (cut_set keep (set_at old v)) = record { members = λ z. c.is_cut.members z ∙ ap (λ f. f z) k; proper = c.is_cut.proper } in record {
      written = c.written ∙ ap (λ (x : Set). record old { current = slice_set old.current v x }) e;
      is_cut = subst (λ (x : Set). IsCut pass (set_at old v) x) e i;
      smaller = subst (λ (x : Set). set_size x < set_size (set_at old v)) e c.smaller;
    }

-- the number goes, at the lower end and at the upper one
pub other_at_least : (s : Set) (n m : ℤ) → IsSet s → s.lo ≡ n → m ≡ n +ℤ pos 1 → (z : ℤ) → s.has z ≡ true → at_least m z ≡ other_than n z
other_at_least s n m i e f z h = same_tests (at_least m z) (other_than n z)
    (λ p. passes_other z n (λ q. let l = le_from m z p in omega (arith, ints, l, q, f)))
    (λ p. of_le m z (let a = i.from z h in let d = apart z n p in above z n m a e f d))
  where
    apart : (z n : ℤ) → other_than n z ≡ true → z ≡ n → ⊥
    apart z n p q = let r : other_than n z ≡ false = ap (other_than n) q ∙ goes_other n in cc

    above : (z n m : ℤ) → s.lo ≤ℤ z → s.lo ≡ n → m ≡ n +ℤ pos 1 → (z ≡ n → ⊥) → m ≤ℤ z
    above z n m a e f d = grind (arith, ints, a, e, f, d)

pub other_at_most : (s : Set) (n m : ℤ) → IsSet s → s.hi ≡ n → m ≡ n -ℤ pos 1 → (z : ℤ) → s.has z ≡ true → at_most m z ≡ other_than n z
other_at_most s n m i e f z h = same_tests (at_most m z) (other_than n z)
    (λ p. passes_other z n (λ q. let l = le_from z m p in omega (arith, ints, l, q, f)))
    (λ p. of_le z m (let a = i.to z h in let d = apart z n p in below z n m a e f d))
  where
    apart : (z n : ℤ) → other_than n z ≡ true → z ≡ n → ⊥
    apart z n p q = let r : other_than n z ≡ false = ap (other_than n) q ∙ goes_other n in cc

    below : (z n m : ℤ) → z ≤ℤ s.hi → s.hi ≡ n → m ≡ n -ℤ pos 1 → (z ≡ n → ⊥) → z ≤ℤ m
    below z n m a e f d = grind (arith, ints, a, e, f, d)

-- ---- the variable gets the numbers that stay

-- a number that goes
pub record Goes (keep : ℤ → Bool) (s : Set) (z : ℤ) : Type 0 where
  pub held : s.has z ≡ true
  pub gone : keep z ≡ false

-- as a domain
pub cut_written : CutsAreOne → CutIsCut → (keep : ℤ → Bool) (t u : Trailed) (v : ℕ) (s : Set) (d : Domain) (row : List ℕ) (z : ℤ) → set_at (sets_of t) v ≡ s → IsSet s → Goes keep s z → IsDomain [] row d → IsCut keep s (domain_set [] row d) → u ≡ written t v (d, row) → Cuts keep v (sets_of t) (sets_of u)
cut_written one law keep t u v s d row z at i g p cut e =
    let q = any_lists t.ranges row d p in
    cuts_written one law keep v (sets_of t) (sets_of u) s (domain_set [] row d) at i cut (smaller law keep s (domain_set [] row d) i cut z g.held g.gone)
    (ap sets_of e ∙ written_sets t v (d, row) ∙ ap (λ (x : Set). record (sets_of t) { current = set (sets_of t).current v x }) q.1)

-- of a domain that is in no list
pub cut_unlisted : CutsAreOne → CutIsCut → (keep : ℤ → Bool) (t u : Trailed) (v : ℕ) (x d : Domain) (row : List ℕ) (z : ℤ) → IsAt t v x row → IsUnlisted x.holes → Goes keep (domain_set t.ranges row x) z → IsDomain [] row d → IsCut keep (domain_set [] row x) (domain_set [] row d) → u ≡ written t v (d, row) → Cuts keep v (sets_of t) (sets_of u)
cut_unlisted one law keep t u v x d row z a n g p cut e =
    let l = domain_unlisted t.ranges [] row x n a.proper in
    cut_written one law keep t u v (domain_set [] row x) d row z (a.set ∙ l.1) l.0.proper (subst (λ (s : Set). Goes keep s z) l.1 g) p cut e

-- as a list of ranges
pub cut_put : CutsAreOne → CutIsCut → (keep : ℤ → Bool) (v : ℕ) (old new : Lists Set) (left : List Span) (z y : ℤ) → IsSet (set_at old v) → ((q : ℤ) → is_member left q ≡ ((set_at old v).has q && keep q)) → IsRanges left → Goes keep (set_at old v) z → is_member left y ≡ true → new ≡ record old { current = slice_set old.current v (set_of left) } → Cuts keep v old new
cut_put one law keep v old new left z y i members ranges g stays e =
    let cut : IsCut keep (set_at old v) (set_of left) = record { members = members; proper = ranges_set left ranges y stays } in
    cuts_written one law keep v old new (set_at old v) (set_of left) refl i cut (smaller law keep (set_at old v) (set_of left) i cut z g.held g.gone) e

-- a number stays
pub stays_in : (keep : ℤ → Bool) (s : Set) (left : List Span) (y : ℤ) → ((q : ℤ) → is_member left q ≡ (s.has q && keep q)) → s.has y ≡ true → keep y ≡ true → is_member left y ≡ true
stays_in keep s left y members held stays = members y ∙ ap (λ b. b && keep y) held ∙ stays

pub some_left : (left : List Span) (y : ℤ) → is_member left y ≡ true → left ≢ []
some_left left y m none = no (ap (λ (ss : List Span). is_member ss y) (sym none) ∙ m)
  where
    no : is_member [] y ≡ true → ⊥
    no q = absurd (cc)

-- ---- the set of a list of ranges

pub listed_place : (t : Trailed) (v : ℕ) (x : Domain) (row : List ℕ) (place : ℕ) → IsAt t v x row → x.holes ≡ Listed place → place < length t.ranges
listed_place t v x row place a e = (subst (λ (h : Holes). IsReadable t.ranges row x.lo x.hi h) e a.proper.readable).0

pub at_listed : (t : Trailed) (v : ℕ) (x : Domain) (row : List ℕ) (place : ℕ) → IsAt t v x row → x.holes ≡ Listed place → set_at (sets_of t) v ≡ set_of (slice_index_or t.ranges place [])
at_listed t v x row place r e =
    let f = subst (λ (h : Holes). IsReadable t.ranges row x.lo x.hi h) e r.proper.readable in
    r.set ∙ ap (λ (h : Holes). bounded x.lo x.hi (is_there t.ranges row h)) e
    ∙ ap (λ (a : ℤ). bounded a x.hi (is_member (slice_index_or t.ranges place []))) f.1
    ∙ ap (λ (a : ℤ). bounded (lo_of (slice_index_or t.ranges place [])) a (is_member (slice_index_or t.ranges place []))) f.2
    ∙ bounded_is (set_of (slice_index_or t.ranges place [])) (is_member (slice_index_or t.ranges place [])) f.3 (λ z a b. refl)

-- the numbers of a list that pass are those of the set
pub members_listed : (keep : ℤ → Bool) (t : Trailed) (v : ℕ) (x : Domain) (row : List ℕ) (place : ℕ) (ss left : List Span) → IsAt t v x row → x.holes ≡ Listed place → slice_index_or t.ranges place [] ≡ ss → ((q : ℤ) → is_member left q ≡ (is_member ss q && keep q)) → (q : ℤ) → is_member left q ≡ ((set_at (sets_of t) v).has q && keep q)
members_listed keep t v x row place ss left a e r h q =
    h q ∙ ap (λ b. b && keep q) (ap (λ (l : List Span). is_member l q) (sym r) ∙ sym (ap (λ (s : Set). s.has q) (at_listed t v x row place a e)))

-- the same of a set without holes
pub members_whole : (keep : ℤ → Bool) (t : Trailed) (v : ℕ) (x : Domain) (row : List ℕ) (whole left : List Span) (lo hi : ℤ) → IsAt t v x row → IsFree x.holes → IsUnlisted x.holes → whole ≡ record { lo = lo; hi = hi } ∷ [] → lo ≡ x.lo → hi ≡ x.hi → ((q : ℤ) → is_member left q ≡ (is_member whole q && keep q)) → (q : ℤ) → is_member left q ≡ ((set_at (sets_of t) v).has q && keep q)
members_whole keep t v x row whole left lo hi a f u w el eh h q =
    h q ∙ ap (λ b. b && keep q) (ap (λ (l : List Span). is_member l q) w ∙ ap (λ (z : ℤ). is_member (record { lo = z; hi = hi } ∷ []) q) el ∙ ap (λ (z : ℤ). is_member (record { lo = x.lo; hi = z } ∷ []) q) eh ∙ one ∙ sym (ap (λ (s : Set). s.has q) a.set))
  where
    one : is_member (record { lo = x.lo; hi = x.hi } ∷ []) q ≡ (domain_set t.ranges row x).has q
    one = tests (int_le x.lo q && int_le q x.hi) ∙ sym (ap (λ (y : Holes). (bounded x.lo x.hi (is_there t.ranges row y)).has q) (whole_of x.holes f u))
      where
        tests : (b : Bool) → (b || false) ≡ (b && true)
        tests true = refl
        tests false = refl

-- the same of lists that are the same
pub members_as : (keep : ℤ → Bool) (old new : Lists Set) (v : ℕ) (left : List Span) → new ≡ old → ((q : ℤ) → is_member left q ≡ ((set_at new v).has q && keep q)) → (q : ℤ) → is_member left q ≡ ((set_at old v).has q && keep q)
members_as keep old new v left e h q = h q ∙ ap (λ (l : Lists Set). (set_at l v).has q && keep q) e

pub written_as : (old mid new : Lists Set) (v : ℕ) (s : Set) → mid ≡ old → new ≡ record mid { current = slice_set mid.current v s } → new ≡ record old { current = slice_set old.current v s }
written_as old mid new v s e h = h ∙ ap (λ (l : Lists Set). record l { current = slice_set l.current v s }) e

-- what holds of the list that a call may have made
pub if_ok : {A E : Type 0} {P Q : A → Type 0} (r : Result A E) → ((x : A) → P x → Q x) → IfOk r P → IfOk r Q
if_ok (Ok x) f h = f x h
if_ok (Err e) f h = h
