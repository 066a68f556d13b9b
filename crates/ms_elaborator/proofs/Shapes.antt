-- Nodes with their types and trees, over plain typings of their parts: as the walk asks for types, with a tree beside.
use Rattle.std.proofs.Common.{◌≡◌, Bool, true, false, List, [], ◌∷◌, ◌++◌, Option, Some, refl, ap, ◌∙◌, if◌then◌else◌}
use Rattle.ms_typing.specs.declared.types.ExprType.{ExprType}
use Rattle.ms_typing.specs.Least.{Typing, and_then, fault, has}
use Rattle.ms_code.specs.Code.{least}
use Rattle.ms_code.specs.declared.code.Code.{Code}
use Rattle.ms_nodes.specs.declared.parts.Choice.{Choice}
use Rattle.ms_nodes.specs.declared.parts.Elaborated.{Elaborated}
use Rattle.ms_nodes.specs.Parts.{choice_kinds, kinds_maybe, made}
use Rattle.ms_elaborator.specs.Elaborate.{built, choice}

abbrev pub Types : Type 0
Types = Typing (List ExprType)

abbrev pub Node : Type 0
Node = List ExprType → Typing ExprType

-- a type, with this tree
abbrev pub packed : Typing ExprType → Code → Typing Elaborated
packed r e = built r (λ t. e)

-- these, where the types are there
abbrev pub listed : {X : Type 0} → Types → X → Typing X
listed q xs = and_then q (λ (ts : List ExprType). has xs)

abbrev pub paired : {X : Type 0} → Typing ExprType → X → Typing (ExprType × X)
paired r x = and_then r (λ (t : ExprType). has (t, x))

pub at_least : (q : Typing ExprType) (g : ExprType → Code) → built q g ≡ packed q (g (least q))
at_least (has t) g = refl
at_least (fault c p) g = refl

-- ---- nodes

pub of_one : (r : Typing ExprType) (e : Code) (n : Node) (g : Code → Code)
    → and_then (packed r e) (λ (m : Elaborated). built (n (m.kind ∷ [])) (λ (t : ExprType). g m.code)) ≡ packed (and_then r (λ (t : ExprType). n (t ∷ []))) (g e)
of_one (has t) e n g = refl
of_one (fault c p) e n g = refl

-- parts alone
pub of_list : {X : Type 0} → (kinds : X → List ExprType) (q : Types) (xs : X) (n : Node) (g : ExprType → X → Code) → ((ts : List ExprType) → q ≡ has ts → kinds xs ≡ ts)
    → and_then (listed q xs) (λ (ys : X). built (n (kinds ys)) (λ (t : ExprType). g t ys)) ≡ packed (and_then q n) (g (least (and_then q n)) xs)
of_list kinds (has ts) xs n g h = ap (λ (us : List ExprType). built (n us) (λ (t : ExprType). g t xs)) (h ts refl) ∙ at_least (n ts) (λ (t : ExprType). g t xs)
of_list kinds (fault c p) xs n g h = refl

-- a part before others
pub of_front : {X : Type 0} → (kinds : X → List ExprType) (r : Typing ExprType) (e : Code) (q : Types) (xs : X) (n : Node) (g : ExprType → Elaborated → X → Code)
    → ((ts : List ExprType) → q ≡ has ts → kinds xs ≡ ts)
    → and_then (packed r e) (λ (m : Elaborated). and_then (listed q xs) (λ (ys : X). built (n (m.kind ∷ kinds ys)) (λ (t : ExprType). g t m ys)))
    ≡ packed (and_then r (λ (t : ExprType). and_then q (λ (ts : List ExprType). n (t ∷ ts))))
    (g (least (and_then r (λ (t : ExprType). and_then q (λ (ts : List ExprType). n (t ∷ ts))))) (made (least r) e) xs)
of_front kinds (has t) e (has ts) xs n g h =
    ap (λ (us : List ExprType). built (n (t ∷ us)) (λ (u : ExprType). g u (made t e) xs)) (h ts refl) ∙ at_least (n (t ∷ ts)) (λ (u : ExprType). g u (made t e) xs)
of_front kinds (has t) e (fault c p) xs n g h = refl
of_front kinds (fault c p) e q xs n g h = refl

-- a part behind others
pub of_back : {X : Type 0} → (kinds : X → List ExprType) (q : Types) (xs : X) (r : Typing ExprType) (e : Code) (n : Node) (g : X → Elaborated → Code)
    → ((ts : List ExprType) → q ≡ has ts → kinds xs ≡ ts)
    → and_then (listed q xs) (λ (ys : X). and_then (packed r e) (λ (m : Elaborated). built (n (kinds ys ++ (m.kind ∷ []))) (λ (t : ExprType). g ys m)))
    ≡ packed (and_then q (λ (ts : List ExprType). and_then r (λ (t : ExprType). n (ts ++ (t ∷ []))))) (g xs (made (least r) e))
of_back kinds (has ts) xs (has t) e n g h = ap (λ (us : List ExprType). packed (n (us ++ (t ∷ []))) (g xs (made t e))) (h ts refl)
of_back kinds (has ts) xs (fault c p) e n g h = refl
of_back kinds (fault c p) xs r e n g h = refl

-- an `if`
abbrev pub choosing : Typing ExprType → Typing ExprType → Types → Typing ExprType → Node → Typing ExprType
choosing a b q d n = and_then a (λ (t : ExprType). and_then b (λ (u : ExprType). and_then q (λ (ts : List ExprType). and_then d (λ (v : ExprType). n (t ∷ u ∷ (ts ++ (v ∷ [])))))))

pub of_choices : (a : Typing ExprType) (e : Code) (b : Typing ExprType) (k : Code) (q : Types) (more : List Choice) (d : Typing ExprType) (l : Code) (n : Node)
    (g : ExprType → Choice → List Choice → Elaborated → Code) → ((ts : List ExprType) → q ≡ has ts → choice_kinds more ≡ ts)
    → and_then (and_then (packed a e) (λ (m : Elaborated). and_then (packed b k) (λ (j : Elaborated). has (choice m j)))) (λ (first : Choice).
    and_then (listed q more) (λ (others : List Choice). and_then (packed d l) (λ (last : Elaborated).
    built (n (first.condition.kind ∷ first.branch.kind ∷ (choice_kinds others ++ (last.kind ∷ [])))) (λ (t : ExprType). g t first others last))))
    ≡ packed (choosing a b q d n) (g (least (choosing a b q d n)) (choice (made (least a) e) (made (least b) k)) more (made (least d) l))
of_choices (has t) e (has u) k (has ts) more (has v) l n g h =
    ap (λ (us : List ExprType). built (n (t ∷ u ∷ (us ++ (v ∷ [])))) (λ (w : ExprType). g w (choice (made t e) (made u k)) more (made v l))) (h ts refl)
    ∙ at_least (n (t ∷ u ∷ (ts ++ (v ∷ [])))) (λ (w : ExprType). g w (choice (made t e) (made u k)) more (made v l))
of_choices (has t) e (has u) k (has ts) more (fault c p) l n g h = refl
of_choices (has t) e (has u) k (fault c p) more d l n g h = refl
of_choices (has t) e (fault c p) k q more d l n g h = refl
of_choices (fault c p) e b k q more d l n g h = refl

-- a local
pub of_local : (a q : Types) (o : Option Elaborated) (n : Node) (g : Option Elaborated → Code) → ((ts : List ExprType) → q ≡ has ts → kinds_maybe o ≡ ts)
    → and_then a (λ (ts : List ExprType). and_then (listed q o) (λ (x : Option Elaborated). built (n (ts ++ kinds_maybe x)) (λ (t : ExprType). g x)))
    ≡ packed (and_then a (λ (ts : List ExprType). and_then q (λ (us : List ExprType). n (ts ++ us)))) (g o)
of_local (has ts) (has us) o n g h = ap (λ (vs : List ExprType). packed (n (ts ++ vs)) (g o)) (h us refl)
of_local (has ts) (fault c p) o n g h = refl
of_local (fault c p) q o n g h = refl

-- both ways to group a chain
pub of_levels : (b : Bool) (r : Typing Elaborated) (a : Typing ExprType) (j k : Elaborated → Typing Elaborated) (g h : ExprType → Typing ExprType) (e : ExprType → Code)
    → and_then r j ≡ packed (and_then a g) (e (least (and_then a g))) → and_then r k ≡ packed (and_then a h) (e (least (and_then a h)))
    → and_then r (λ (m : Elaborated). if b then j m else k m)
    ≡ packed (and_then a (λ (t : ExprType). if b then g t else h t)) (e (least (and_then a (λ (t : ExprType). if b then g t else h t))))
of_levels true r a j k g h e x y = x
of_levels false r a j k g h e x y = y

-- ---- what is behind a first operand, or an array: each time the type so far decides

-- what follows, where the first step is there
after : {Y : Type 0} → (u : ExprType) (y : Y) (k : Typing ExprType) (w : Typing (ExprType × List Y)) (ys : List Y) → w ≡ paired k ys
    → and_then w (λ (z : ExprType × List Y). has (z.0, y ∷ z.1)) ≡ paired k (y ∷ ys)
after u y (has v) w ys h = rw h refl
after u y (fault c p) w ys h = rw h refl

pub of_steps : {Y : Type 0} → (a : Typing ExprType) (y : Y) (k : ExprType → Typing ExprType) (w : ExprType → Typing (ExprType × List Y)) (ys : List Y)
    → ((u : ExprType) → w u ≡ paired (k u) ys)
    → and_then (paired a y) (λ (q : ExprType × Y). and_then (w q.0) (λ (z : ExprType × List Y). has (z.0, q.1 ∷ z.1))) ≡ paired (and_then a k) (y ∷ ys)
of_steps (has u) y k w ys h = after u y (k u) (w u) ys (h u)
of_steps (fault c p) y k w ys h = refl

pub of_link : {Y : Type 0} → (r : Typing ExprType) (e : Code) (n : ExprType → Typing ExprType) (y : Elaborated → Y)
    → and_then (packed r e) (λ (m : Elaborated). and_then (n m.kind) (λ (u : ExprType). has (u, y m))) ≡ paired (and_then r n) (y (made (least r) e))
of_link (has t) e n y = refl
of_link (fault c p) e n y = refl

pub of_index : {Y : Type 0} → (r : Typing ExprType) (e : Code) (q : Types) (o : Option Elaborated) (n : Node) (y : Elaborated → Option Elaborated → Y)
    → ((ts : List ExprType) → q ≡ has ts → kinds_maybe o ≡ ts)
    → and_then (packed r e) (λ (m : Elaborated). and_then (listed q o) (λ (x : Option Elaborated). and_then (n (m.kind ∷ kinds_maybe x)) (λ (u : ExprType). has (u, y m x))))
    ≡ paired (and_then r (λ (t : ExprType). and_then q (λ (ts : List ExprType). n (t ∷ ts)))) (y (made (least r) e) o)
of_index (has t) e (has ts) o n y h = ap (λ (us : List ExprType). paired (n (t ∷ us)) (y (made t e) o)) (h ts refl)
of_index (has t) e (fault c p) o n y h = refl
of_index (fault c p) e q o n y h = refl

-- the whole, once all steps are there
all_steps : {Y : Type 0} → (m : Elaborated) (k : Typing ExprType) (w : Typing (ExprType × List Y)) (ys : List Y) (g : ExprType → Elaborated → List Y → Code) → w ≡ paired k ys
    → and_then w (λ (q : ExprType × List Y). has (made q.0 (g q.0 m q.1))) ≡ packed k (g (least k) m ys)
all_steps m (has v) w ys g h = rw h refl
all_steps m (fault c p) w ys g h = rw h refl

pub of_left : {Y : Type 0} → (r : Typing ExprType) (e : Code) (k : ExprType → Typing ExprType) (w : ExprType → Typing (ExprType × List Y)) (ys : List Y)
    (g : ExprType → Elaborated → List Y → Code) → ((u : ExprType) → w u ≡ paired (k u) ys)
    → and_then (packed r e) (λ (m : Elaborated). and_then (w m.kind) (λ (q : ExprType × List Y). has (made q.0 (g q.0 m q.1))))
    ≡ packed (and_then r k) (g (least (and_then r k)) (made (least r) e) ys)
of_left (has t) e k w ys g h = all_steps (made t e) (k t) (w t) ys g (h t)
of_left (fault c p) e k w ys g h = refl

-- ---- lists of parts

pub of_more : {X Y : Type 0} → (r : Typing ExprType) (e : Code) (q : Types) (xs : X) (f : Elaborated → X → Y)
    → and_then (packed r e) (λ (m : Elaborated). and_then (listed q xs) (λ (ys : X). has (f m ys)))
    ≡ listed (and_then r (λ (t : ExprType). and_then q (λ (ts : List ExprType). has (t ∷ ts)))) (f (made (least r) e) xs)
of_more (has t) e (has ts) xs f = refl
of_more (has t) e (fault c p) xs f = refl
of_more (fault c p) e q xs f = refl

pub of_two : {X Y Z : Type 0} → (q : Types) (xs : X) (p : Types) (ys : Y) (f : X → Y → Z)
    → and_then (listed q xs) (λ (us : X). and_then (listed p ys) (λ (vs : Y). has (f us vs)))
    ≡ listed (and_then q (λ (ts : List ExprType). and_then p (λ (us : List ExprType). has (ts ++ us)))) (f xs ys)
of_two (has ts) xs (has us) ys f = refl
of_two (has ts) xs (fault c p) ys f = refl
of_two (fault c p) xs q ys f = refl

pub of_present : (r : Typing ExprType) (e : Code)
    → and_then (packed r e) (λ (m : Elaborated). has (Some m)) ≡ listed (and_then r (λ (t : ExprType). has (t ∷ []))) (Some (made (least r) e))
of_present (has t) e = refl
of_present (fault c p) e = refl

pub of_choice_more : (a : Typing ExprType) (e : Code) (b : Typing ExprType) (k : Code) (q : Types) (more : List Choice)
    → and_then (and_then (packed a e) (λ (m : Elaborated). and_then (packed b k) (λ (j : Elaborated). has (choice m j)))) (λ (first : Choice).
    and_then (listed q more) (λ (others : List Choice). has (first ∷ others)))
    ≡ listed (and_then a (λ (t : ExprType). and_then b (λ (u : ExprType). and_then q (λ (ts : List ExprType). has (t ∷ u ∷ ts))))) (choice (made (least a) e) (made (least b) k) ∷ more)
of_choice_more (has t) e (has u) k (has ts) more = refl
of_choice_more (has t) e (has u) k (fault c p) more = refl
of_choice_more (has t) e (fault c p) k q more = refl
of_choice_more (fault c p) e b k q more = refl

-- ---- types alone

pub of_type : (r : Typing ExprType) (e : Code) → and_then (packed r e) (λ (m : Elaborated). has (m.kind ∷ [])) ≡ and_then r (λ (t : ExprType). has (t ∷ []))
of_type (has t) e = refl
of_type (fault c p) e = refl

pub of_types : (q : Types) (o : Option Elaborated) → ((ts : List ExprType) → q ≡ has ts → kinds_maybe o ≡ ts)
    → and_then (listed q o) (λ (x : Option Elaborated). has (kinds_maybe x)) ≡ q
of_types (has ts) o h = ap (λ (us : List ExprType). has us) (h ts refl)
of_types (fault c p) o h = refl

-- ---- the types of lists that have some

pub more_have : (r : Typing ExprType) (q : Types) (us ts : List ExprType) → ((vs : List ExprType) → q ≡ has vs → us ≡ vs)
    → and_then r (λ (t : ExprType). and_then q (λ (vs : List ExprType). has (t ∷ vs))) ≡ has ts → (least r ∷ us) ≡ ts
more_have (has t) (has vs) us ts h k = rw (h vs refl) cc
more_have (has t) (fault c p) us ts h k = absurd cc
more_have (fault c p) q us ts h k = absurd cc

pub two_have : (q p : Types) (us vs ts : List ExprType) → ((ws : List ExprType) → q ≡ has ws → us ≡ ws) → ((ws : List ExprType) → p ≡ has ws → vs ≡ ws)
    → and_then q (λ (xs : List ExprType). and_then p (λ (ys : List ExprType). has (xs ++ ys))) ≡ has ts → us ++ vs ≡ ts
two_have (has xs) (has ys) us vs ts h k l = rw (h xs refl, k ys refl) cc
two_have (has xs) (fault c p) us vs ts h k l = absurd cc
two_have (fault c p) q us vs ts h k l = absurd cc

pub present_has : (r : Typing ExprType) (ts : List ExprType) → and_then r (λ (t : ExprType). has (t ∷ [])) ≡ has ts → (least r ∷ []) ≡ ts
present_has (has t) ts h = cc
present_has (fault c p) ts h = absurd cc

pub choices_have : (a b : Typing ExprType) (q : Types) (us ts : List ExprType) → ((vs : List ExprType) → q ≡ has vs → us ≡ vs)
    → and_then a (λ (t : ExprType). and_then b (λ (u : ExprType). and_then q (λ (vs : List ExprType). has (t ∷ u ∷ vs)))) ≡ has ts → (least a ∷ least b ∷ us) ≡ ts
choices_have (has t) (has u) (has vs) us ts h k = rw (h vs refl) cc
choices_have (has t) (has u) (fault c p) us ts h k = absurd cc
choices_have (has t) (fault c p) q us ts h k = absurd cc
choices_have (fault c p) b q us ts h k = absurd cc
