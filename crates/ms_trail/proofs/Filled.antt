-- Room for holes: no set changes, only what it is kept in.
use Rattle.std.proofs.Common.{◌≡◌, ℕ, ◌+◌, ◌*◌, ◌<◌, List, [], length, get_or, set, refl, sym, ap, ◌∙◌, subst, arith, ◌⊎◌, inl, inr}
use Rattle.std.specs.Prelude.{ℤ, pos, ◌+ℤ◌, ◌≤ℤ◌, ◌<ℤ◌}
use Rattle.std.proofs.lemmas.Int.{ints}
use Rattle.std.proofs.lemmas.List.{length-set, set-get_or, get_or-set_same, get_or-set_other, set-set}
use Rattle.ms_num.specs.Span.{Span}
use Rattle.ms_num.specs.Sets.{Set}
use Rattle.ms_domains.specs.declared.domain.Domain.{Domain}
use Rattle.ms_domains.specs.declared.domain.Holes.{Holes}
use Rattle.ms_domains.specs.declared.domain.Holes.TheVariants.{Row}
use Rattle.ms_domains.specs.Domains.{row_from, is_there, domain_set, Covers, IsReadable, IsDomain, StandsFor, IsFilled, IsFree, IsWritten, HasRoom}
use Rattle.ms_trail.proofs.Filling.{domain_same, domain_free, domain_unlisted, filled_by_words}
use Rattle.ms_trail.specs.Spread.{IsUnlisted, IsRowWord}
use Rattle.ms_trail.specs.Trailed.{Trailed, sets_of, slot_at, IsAt, IsRoomy, written, FillsWord}
use Rattle.ms_trail.proofs.Written.{written_at, written_as_it_was, written_twice, written_same, written_slot, any_lists}

-- ---- a domain as it is

pub roomy_itself : (t : Trailed) (v : ℕ) (n : ℤ) (d : Domain) → IsAt t v d (slot_at t v).1 → IsUnlisted d.holes → HasRoom d.lo d.hi n d.holes → IsRoomy t v n d
roomy_itself t v n d a u r =
    let l = domain_unlisted t.ranges [] (slot_at t v).1 d u a.proper in
    record { stands = record { proper = l.0; set = sym (a.set ∙ l.1) }; room = r }

-- what is written of a domain that is roomy
pub roomy_proper : (t : Trailed) (v : ℕ) (n : ℤ) (d : Domain) → IsRoomy t v n d → IsDomain t.ranges (slot_at t v).1 d
roomy_proper t v n d r = (any_lists t.ranges (slot_at t v).1 d r.stands.proper).0

pub roomy_same : (t u : Trailed) (v : ℕ) (n : ℤ) (d : Domain) → IsRoomy t v n d → u ≡ written t v (d, (slot_at t v).1) → sets_of u ≡ sets_of t
roomy_same t u v n d r e = ap sets_of e ∙ written_same t v (d, (slot_at t v).1) ((any_lists t.ranges (slot_at t v).1 d r.stands.proper).1 ∙ r.stands.set)

-- ---- the word in front of a row is written

row_same : (ranges : List (List Span)) (row : List ℕ) (d : Domain) (base : ℤ) (at bits : ℕ) → d.holes ≡ Row base at bits → IsDomain ranges row d → IsDomain ranges (set row at bits) d × (domain_set ranges row d ≡ domain_set ranges (set row at bits) d)
row_same ranges row d base at bits e i = domain_same ranges ranges row (set row at bits) d there readable i
  where
    there : is_there ranges row d.holes ≡ is_there ranges (set row at bits) d.holes
    there = ap (is_there ranges row) e ∙ front ∙ sym (ap (is_there ranges (set row at bits)) e)
      where
        front : is_there ranges row (Row base at bits) ≡ is_there ranges (set row at bits) (Row base at bits)
        front = ap (λ (ws : List ℕ). λ z. row_from ws base z) (sym (set-set row at bits bits))

    readable : IsReadable ranges (set row at bits) d.lo d.hi d.holes
    readable =
        let r = subst (λ (h : Holes). IsReadable ranges row d.lo d.hi h) e i.readable in
        subst (λ (h : Holes). IsReadable ranges (set row at bits) d.lo d.hi h) (sym e)
        (subst (λ (n : ℕ). Covers base n d.lo d.hi × (at < n)) (sym (length-set row at bits)) r)

pub row_inside : (t : Trailed) (v : ℕ) (d : Domain) (row : List ℕ) (base : ℤ) (at bits : ℕ) → IsAt t v d row → d.holes ≡ Row base at bits → at < length row
row_inside t v d row base at bits a e = (subst (λ (h : Holes). IsReadable t.ranges row d.lo d.hi h) e a.proper.readable).1

pub row_proper : (t : Trailed) (v : ℕ) (d : Domain) (row : List ℕ) (base : ℤ) (at bits : ℕ) → IsAt t v d row → d.holes ≡ Row base at bits → IsDomain t.ranges (set row at bits) d
row_proper t v d row base at bits a e = (row_same t.ranges row d base at bits e a.proper).0

pub row_sets : (t u : Trailed) (v : ℕ) (d : Domain) (row : List ℕ) (base : ℤ) (at bits : ℕ) → IsAt t v d row → d.holes ≡ Row base at bits → u ≡ written t v (d, set row at bits) → sets_of u ≡ sets_of t
row_sets t u v d row base at bits a e w = ap sets_of w ∙ written_same t v (d, set row at bits) (sym (row_same t.ranges row d base at bits e a.proper).1 ∙ sym a.set)

pub row_at : (t u : Trailed) (v : ℕ) (d : Domain) (row : List ℕ) (base : ℤ) (at bits : ℕ) → v < length (sets_of t).current → IsAt t v d row → d.holes ≡ Row base at bits → u ≡ written t v (d, set row at bits) → IsAt u v d (set row at bits)
row_at t u v d row base at bits b a e w = subst (λ (x : Trailed). IsAt x v d (set row at bits)) (sym w) (written_at t v d (set row at bits) b (row_proper t v d row base at bits a e))

pub row_written : (row : List ℕ) (h : Holes) (base : ℤ) (at bits : ℕ) → h ≡ Row base at bits → IsWritten (set row at bits) h
row_written row h base at bits e = subst (λ (x : Holes). IsWritten (set row at bits) x) (sym e) (set-set row at bits bits)

-- ---- a domain whose holes stand in no word: its row may be anything

pub free_proper : (t : Trailed) (v : ℕ) (d : Domain) (row other : List ℕ) → IsAt t v d row → IsFree d.holes → IsDomain t.ranges other d
free_proper t v d row other a f = (domain_free t.ranges row other d f a.proper).0

pub free_sets : (t u : Trailed) (v : ℕ) (d : Domain) (row other : List ℕ) → IsAt t v d row → IsFree d.holes → u ≡ written t v (d, other) → sets_of u ≡ sets_of t
free_sets t u v d row other a f w = ap sets_of w ∙ written_same t v (d, other) (sym (domain_free t.ranges row other d f a.proper).1 ∙ sym a.set)

-- the word stands there already
pub fills_same : (t : Trailed) (v : ℕ) (d : Domain) (row : List ℕ) (i word : ℕ) → IsAt t v d row → get_or row i 0 ≡ word → IsRowWord t.ranges (slot_at t v).1 d i word → FillsWord t t v d i
fills_same t v d row i word a e r = record {
  word = word;
  written = sym (written_as_it_was t v (d, set (slot_at t v).1 i word) (a.slot ∙ ap (λ (ws : List ℕ). (d, ws)) (sym (ap (λ (ws : List ℕ). set ws i word) (ap (λ (s : Domain × List ℕ). s.1) a.slot) ∙ ap (set row i) (sym e) ∙ set-get_or row i 0))));
  filled = r;
}

-- the first words of the row are those of the set
pub record Fills (t u : Trailed) (v : ℕ) (d : Domain) (i : ℕ) : Type 0 where
  pub row : List ℕ
  pub written : u ≡ written t v (d, row)
  pub count : length row ≡ length (slot_at t v).1
  pub words : (j : ℕ) → j < i → IsRowWord t.ranges (slot_at t v).1 d j (get_or row j 0)

pub fills_none : (t : Trailed) (v : ℕ) (d : Domain) → IsAt t v d (slot_at t v).1 → Fills t t v d 0
fills_none t v d a = record { row = (slot_at t v).1; written = sym (written_as_it_was t v (d, (slot_at t v).1) a.slot); count = refl; words = λ j b. absurd (omega (arith, b)) }

pub fills_at : (t u : Trailed) (v : ℕ) (d : Domain) (i : ℕ) → v < length (sets_of t).current → IsAt t v d (slot_at t v).1 → IsFree d.holes → (f : Fills t u v d i) → IsAt u v d f.row
fills_at t u v d i b a free f = subst (λ (x : Trailed). IsAt x v d f.row) (sym f.written) (written_at t v d f.row b (free_proper t v d (slot_at t v).1 f.row a free))

fills_row : (t u : Trailed) (v : ℕ) (d : Domain) (i : ℕ) → v < length (sets_of t).current → (f : Fills t u v d i) → (slot_at u v).1 ≡ f.row
fills_row t u v d i b f = ap (λ (x : Trailed). (slot_at x v).1) f.written ∙ ap (λ (s : Domain × List ℕ). s.1) (written_slot t v (d, f.row) b)

pub fills_read : (t u : Trailed) (v : ℕ) (d : Domain) (i : ℕ) → v < length (sets_of t).current → IsAt t v d (slot_at t v).1 → IsFree d.holes → Fills t u v d i → IsAt u v d (slot_at u v).1
fills_read t u v d i b a free f = subst (λ (ws : List ℕ). IsAt u v d ws) (sym (fills_row t u v d i b f)) (fills_at t u v d i b a free f)

pub fills_sets : (t u : Trailed) (v : ℕ) (d : Domain) (i : ℕ) → IsAt t v d (slot_at t v).1 → IsFree d.holes → Fills t u v d i → sets_of u ≡ sets_of t
fills_sets t u v d i a free f = free_sets t u v d (slot_at t v).1 f.row a free f.written

-- a word that is needed is in the row
pub word_inside : (t u : Trailed) (v : ℕ) (d : Domain) (i : ℕ) → v < length (sets_of t).current → d.hi <ℤ (d.lo +ℤ pos (64 * length (slot_at t v).1)) → (d.lo +ℤ pos (64 * i)) ≤ℤ d.hi → Fills t u v d i → i < length (slot_at u v).1
word_inside t u v d i b reach needed f = let e = f.count in let q = ap length (fills_row t u v d i b f) in below i (length (slot_at t v).1) (length (slot_at u v).1) reach needed (q ∙ e)
  where
    below : (i n m : ℕ) → d.hi <ℤ (d.lo +ℤ pos (64 * n)) → (d.lo +ℤ pos (64 * i)) ≤ℤ d.hi → m ≡ n → i < m
    below i n m r s e = omega (arith, ints, r, s, e)

word_rows : (lists : List (List Span)) (row other : List ℕ) (d : Domain) (i word : ℕ) → domain_set lists row d ≡ domain_set lists other d → IsRowWord lists row d i word → IsRowWord lists other d i word
word_rows lists row other d i word e h k l b = h k l b ∙ ap (λ (s : Set). s.has (d.lo +ℤ pos (64 * i + k))) e

-- the word that comes next, as one of the set's
word_next : (t u w : Trailed) (v : ℕ) (d : Domain) (i : ℕ) → v < length (sets_of t).current → IsAt t v d (slot_at t v).1 → IsFree d.holes → (f : Fills t u v d i) → (g : FillsWord u w v d i) → IsRowWord t.ranges (slot_at t v).1 d i g.word
word_next t u w v d i b a free f g =
    let e = fills_row t u v d i b f in
    let ranges : u.ranges ≡ t.ranges = ap (λ (x : Trailed). x.ranges) f.written in
    let there : IsRowWord t.ranges f.row d i g.word = subst (λ (r : List (List Span)). IsRowWord r f.row d i g.word) ranges (subst (λ (ws : List ℕ). IsRowWord u.ranges ws d i g.word) e g.filled) in
    word_rows t.ranges f.row (slot_at t v).1 d i g.word (sym (domain_free t.ranges (slot_at t v).1 f.row d free a.proper).1) there

pub fills_more : (t u w : Trailed) (v : ℕ) (d : Domain) (i : ℕ) → v < length (sets_of t).current → IsAt t v d (slot_at t v).1 → IsFree d.holes → i < length (slot_at u v).1 → Fills t u v d i → FillsWord u w v d i → Fills t w v d (i + 1)
fills_more t u w v d i b a free inside f g =
    let e = fills_row t u v d i b f in
    let there : i < length f.row = subst (λ (ws : List ℕ). i < length ws) e inside in
    let next = word_next t u w v d i b a free f g in record {
      row = set f.row i g.word;
      written = g.written ∙ ap (λ (ws : List ℕ). written u v (d, set ws i g.word)) e ∙ ap (λ (x : Trailed). written x v (d, set f.row i g.word)) f.written ∙ written_twice t v (d, f.row) (d, set f.row i g.word);
      count = length-set f.row i g.word ∙ f.count;
      words = λ j c. by_place j (split j c) there next;
    }
  where
    split : (j : ℕ) → j < i + 1 → (j < i) ⊎ (j ≡ i)
    split j c = grind (arith, c)

    by_place : (j : ℕ) → (j < i) ⊎ (j ≡ i) → i < length f.row → IsRowWord t.ranges (slot_at t v).1 d i g.word → IsRowWord t.ranges (slot_at t v).1 d j (get_or (set f.row i g.word) j 0)
    by_place j (inl c) there next = subst (λ (x : ℕ). IsRowWord t.ranges (slot_at t v).1 d j x) (sym (get_or-set_other f.row i j g.word 0 (λ q. absurd (omega (arith, c, q))))) (f.words j c)
    by_place j (inr q) there next = subst (λ (k : ℕ). IsRowWord t.ranges (slot_at t v).1 d k (get_or (set f.row i g.word) k 0)) (sym q) (subst (λ (x : ℕ). IsRowWord t.ranges (slot_at t v).1 d i x) (sym (get_or-set_same f.row i g.word 0 there)) next)

pub fills_all : (t u : Trailed) (v : ℕ) (d : Domain) (words : ℕ) → v < length (sets_of t).current → IsAt t v d (slot_at t v).1 → IsFree d.holes → d.hi <ℤ (d.lo +ℤ pos (64 * length (slot_at t v).1)) → d.hi <ℤ (d.lo +ℤ pos (64 * words)) → Fills t u v d words → IsFilled u.ranges (slot_at u v).1 d
fills_all t u v d words b a free reach all f =
    let e = fills_row t u v d words b f in
    let ranges : u.ranges ≡ t.ranges = ap (λ (x : Trailed). x.ranges) f.written in
    let c : d.hi <ℤ (d.lo +ℤ pos (64 * length f.row)) = subst (λ (n : ℕ). d.hi <ℤ (d.lo +ℤ pos (64 * n))) (sym f.count) reach in
    subst (λ (r : List (List Span)). IsFilled r (slot_at u v).1 d) (sym ranges) (subst (λ (ws : List ℕ). IsFilled t.ranges ws d) (sym e) (filled_by_words t.ranges f.row (slot_at t v).1 d words (domain_free t.ranges (slot_at t v).1 f.row d free a.proper).1 c all f.words))

-- the domain of a row that is filled
pub opened_roomy : (u : Trailed) (v : ℕ) (n : ℤ) (d o : Domain) → IsAt u v d (slot_at u v).1 → StandsFor [] (slot_at u v).1 (domain_set u.ranges (slot_at u v).1 d) o → HasRoom o.lo o.hi n o.holes → IsRoomy u v n o
opened_roomy u v n d o a s r = record { stands = record { proper = s.proper; set = s.set ∙ sym a.set }; room = r }

-- that of a row with its front written, and another word in front
pub moved_roomy : (u : Trailed) (v : ℕ) (n : ℤ) (d m : Domain) → IsAt u v d (slot_at u v).1 → IsUnlisted d.holes → StandsFor [] (slot_at u v).1 (domain_set [] (slot_at u v).1 d) m → HasRoom m.lo m.hi n m.holes → IsRoomy u v n m
moved_roomy u v n d m a l s r = record { stands = record { proper = s.proper; set = s.set ∙ sym (a.set ∙ (domain_unlisted u.ranges [] (slot_at u v).1 d l a.proper).1) }; room = r }
