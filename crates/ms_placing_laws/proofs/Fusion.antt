-- A function of each part of a typed tree that goes through one layer goes through the whole tree.
use Rattle.std.proofs.Common.{◌≡◌, List, [], ◌∷◌, Option, Some, None, map, refl, sym, ap, ◌∙◌, subst}
use Rattle.ms_code.specs.declared.code.Code.{Code, fold-Code, fold-roll-Code, map-Code, roll-Code, ind-Code}
use Rattle.ms_code.specs.declared.code.Arm.{Arm, fold-Arm, fold-roll-Arm, map-Arm, roll-Arm, Arm-F}
use Rattle.ms_code.specs.declared.code.Generator.{Generator, fold-Generator, fold-roll-Generator, map-Generator, roll-Generator, Generator-F}
use Rattle.ms_code.specs.declared.code.Generators.{Generators, fold-Generators, fold-roll-Generators, map-Generators, roll-Generators, Generators-F}
use Rattle.ms_code.specs.declared.code.Link.{Link, fold-Link, fold-roll-Link, map-Link, roll-Link, Link-F}
use Rattle.ms_code.specs.declared.code.Row.{Row, fold-Row, fold-roll-Row, map-Row, roll-Row, Row-F}
use Rattle.ms_code.specs.declared.code.Subscript.{Subscript, fold-Subscript, fold-roll-Subscript, map-Subscript, roll-Subscript, Subscript-F}
use Rattle.ms_code.specs.declared.code.Code.TheOpen.{Code-F}

-- a part, with what holds of it
abbrev pub Such : (A : Type 0) → (A → Type 0) → Type 0
Such A P = (a : A) × P a

-- what holds of a node where it holds of its parts holds of each tree
module _
    (P0 : Code → Type 0)
    (P1 : Arm → Type 0)
    (P2 : Generator → Type 0)
    (P3 : Generators → Type 0)
    (P4 : Link → Type 0)
    (P5 : Row → Type 0)
    (P6 : Subscript → Type 0)
  where
    abbrev pub Parts : (Type 0 → Type 0 → Type 0 → Type 0 → Type 0 → Type 0 → Type 0 → Type 0) → Type 0
    Parts F = F (Such Code P0) (Such Arm P1) (Such Generator P2) (Such Generators P3) (Such Link P4) (Such Row P5) (Such Subscript P6)

    abbrev pub bare0 : Parts Code-F → Code-F Code Arm Generator Generators Link Row Subscript
    bare0 = map-Code (Such Code P0) (Such Arm P1) (Such Generator P2) (Such Generators P3) (Such Link P4) (Such Row P5) (Such Subscript P6) Code Arm Generator Generators Link Row Subscript (λ e. e.0) (λ e. e.0) (λ e. e.0) (λ e. e.0) (λ e. e.0) (λ e. e.0) (λ e. e.0)

    abbrev pub bare1 : Parts Arm-F → Arm-F Code Arm Generator Generators Link Row Subscript
    bare1 = map-Arm (Such Code P0) (Such Arm P1) (Such Generator P2) (Such Generators P3) (Such Link P4) (Such Row P5) (Such Subscript P6) Code Arm Generator Generators Link Row Subscript (λ e. e.0) (λ e. e.0) (λ e. e.0) (λ e. e.0) (λ e. e.0) (λ e. e.0) (λ e. e.0)

    abbrev pub bare2 : Parts Generator-F → Generator-F Code Arm Generator Generators Link Row Subscript
    bare2 = map-Generator (Such Code P0) (Such Arm P1) (Such Generator P2) (Such Generators P3) (Such Link P4) (Such Row P5) (Such Subscript P6) Code Arm Generator Generators Link Row Subscript (λ e. e.0) (λ e. e.0) (λ e. e.0) (λ e. e.0) (λ e. e.0) (λ e. e.0) (λ e. e.0)

    abbrev pub bare3 : Parts Generators-F → Generators-F Code Arm Generator Generators Link Row Subscript
    bare3 = map-Generators (Such Code P0) (Such Arm P1) (Such Generator P2) (Such Generators P3) (Such Link P4) (Such Row P5) (Such Subscript P6) Code Arm Generator Generators Link Row Subscript (λ e. e.0) (λ e. e.0) (λ e. e.0) (λ e. e.0) (λ e. e.0) (λ e. e.0) (λ e. e.0)

    abbrev pub bare4 : Parts Link-F → Link-F Code Arm Generator Generators Link Row Subscript
    bare4 = map-Link (Such Code P0) (Such Arm P1) (Such Generator P2) (Such Generators P3) (Such Link P4) (Such Row P5) (Such Subscript P6) Code Arm Generator Generators Link Row Subscript (λ e. e.0) (λ e. e.0) (λ e. e.0) (λ e. e.0) (λ e. e.0) (λ e. e.0) (λ e. e.0)

    abbrev pub bare5 : Parts Row-F → Row-F Code Arm Generator Generators Link Row Subscript
    bare5 = map-Row (Such Code P0) (Such Arm P1) (Such Generator P2) (Such Generators P3) (Such Link P4) (Such Row P5) (Such Subscript P6) Code Arm Generator Generators Link Row Subscript (λ e. e.0) (λ e. e.0) (λ e. e.0) (λ e. e.0) (λ e. e.0) (λ e. e.0) (λ e. e.0)

    abbrev pub bare6 : Parts Subscript-F → Subscript-F Code Arm Generator Generators Link Row Subscript
    bare6 = map-Subscript (Such Code P0) (Such Arm P1) (Such Generator P2) (Such Generators P3) (Such Link P4) (Such Row P5) (Such Subscript P6) Code Arm Generator Generators Link Row Subscript (λ e. e.0) (λ e. e.0) (λ e. e.0) (λ e. e.0) (λ e. e.0) (λ e. e.0) (λ e. e.0)

    pub induct :
        ((y : Parts Code-F) → P0 (roll-Code (bare0 y))) →
        ((y : Parts Arm-F) → P1 (roll-Arm (bare1 y))) →
        ((y : Parts Generator-F) → P2 (roll-Generator (bare2 y))) →
        ((y : Parts Generators-F) → P3 (roll-Generators (bare3 y))) →
        ((y : Parts Link-F) → P4 (roll-Link (bare4 y))) →
        ((y : Parts Row-F) → P5 (roll-Row (bare5 y))) →
        ((y : Parts Subscript-F) → P6 (roll-Subscript (bare6 y))) →
        (e : Code) → P0 e
    induct u0 u1 u2 u3 u4 u5 u6 = ind-Code P0 P1 P2 P3 P4 P5 P6
        (λ x y is. subst (λ z. P0 (roll-Code z)) is (u0 y))
        (λ x y is. subst (λ z. P1 (roll-Arm z)) is (u1 y))
        (λ x y is. subst (λ z. P2 (roll-Generator z)) is (u2 y))
        (λ x y is. subst (λ z. P3 (roll-Generators z)) is (u3 y))
        (λ x y is. subst (λ z. P4 (roll-Link z)) is (u4 y))
        (λ x y is. subst (λ z. P5 (roll-Row z)) is (u5 y))
        (λ x y is. subst (λ z. P6 (roll-Subscript z)) is (u6 y))

-- two folds, the second of which is the first with a function behind it, if this is so of each layer
module _
    (A0 A1 A2 A3 A4 A5 A6 B0 B1 B2 B3 B4 B5 B6 : Type 0)
    (s0 : Code-F A0 A1 A2 A3 A4 A5 A6 → A0)
    (s1 : Arm-F A0 A1 A2 A3 A4 A5 A6 → A1)
    (s2 : Generator-F A0 A1 A2 A3 A4 A5 A6 → A2)
    (s3 : Generators-F A0 A1 A2 A3 A4 A5 A6 → A3)
    (s4 : Link-F A0 A1 A2 A3 A4 A5 A6 → A4)
    (s5 : Row-F A0 A1 A2 A3 A4 A5 A6 → A5)
    (s6 : Subscript-F A0 A1 A2 A3 A4 A5 A6 → A6)
    (t0 : Code-F B0 B1 B2 B3 B4 B5 B6 → B0)
    (t1 : Arm-F B0 B1 B2 B3 B4 B5 B6 → B1)
    (t2 : Generator-F B0 B1 B2 B3 B4 B5 B6 → B2)
    (t3 : Generators-F B0 B1 B2 B3 B4 B5 B6 → B3)
    (t4 : Link-F B0 B1 B2 B3 B4 B5 B6 → B4)
    (t5 : Row-F B0 B1 B2 B3 B4 B5 B6 → B5)
    (t6 : Subscript-F B0 B1 B2 B3 B4 B5 B6 → B6)
    (h0 : A0 → B0)
    (h1 : A1 → B1)
    (h2 : A2 → B2)
    (h3 : A3 → B3)
    (h4 : A4 → B4)
    (h5 : A5 → B5)
    (h6 : A6 → B6)
    (e0 : (y : Code-F A0 A1 A2 A3 A4 A5 A6) → h0 (s0 y) ≡ t0 (map-Code A0 A1 A2 A3 A4 A5 A6 B0 B1 B2 B3 B4 B5 B6 h0 h1 h2 h3 h4 h5 h6 y))
    (e1 : (y : Arm-F A0 A1 A2 A3 A4 A5 A6) → h1 (s1 y) ≡ t1 (map-Arm A0 A1 A2 A3 A4 A5 A6 B0 B1 B2 B3 B4 B5 B6 h0 h1 h2 h3 h4 h5 h6 y))
    (e2 : (y : Generator-F A0 A1 A2 A3 A4 A5 A6) → h2 (s2 y) ≡ t2 (map-Generator A0 A1 A2 A3 A4 A5 A6 B0 B1 B2 B3 B4 B5 B6 h0 h1 h2 h3 h4 h5 h6 y))
    (e3 : (y : Generators-F A0 A1 A2 A3 A4 A5 A6) → h3 (s3 y) ≡ t3 (map-Generators A0 A1 A2 A3 A4 A5 A6 B0 B1 B2 B3 B4 B5 B6 h0 h1 h2 h3 h4 h5 h6 y))
    (e4 : (y : Link-F A0 A1 A2 A3 A4 A5 A6) → h4 (s4 y) ≡ t4 (map-Link A0 A1 A2 A3 A4 A5 A6 B0 B1 B2 B3 B4 B5 B6 h0 h1 h2 h3 h4 h5 h6 y))
    (e5 : (y : Row-F A0 A1 A2 A3 A4 A5 A6) → h5 (s5 y) ≡ t5 (map-Row A0 A1 A2 A3 A4 A5 A6 B0 B1 B2 B3 B4 B5 B6 h0 h1 h2 h3 h4 h5 h6 y))
    (e6 : (y : Subscript-F A0 A1 A2 A3 A4 A5 A6) → h6 (s6 y) ≡ t6 (map-Subscript A0 A1 A2 A3 A4 A5 A6 B0 B1 B2 B3 B4 B5 B6 h0 h1 h2 h3 h4 h5 h6 y))
  where
    abbrev a0 : Code → A0
    a0 = fold-Code A0 A1 A2 A3 A4 A5 A6 s0 s1 s2 s3 s4 s5 s6

    abbrev b0 : Code → B0
    b0 = fold-Code B0 B1 B2 B3 B4 B5 B6 t0 t1 t2 t3 t4 t5 t6

    abbrev Q0 : Code → Type 0
    Q0 e = h0 (a0 e) ≡ b0 e

    abbrev a1 : Arm → A1
    a1 = fold-Arm A0 A1 A2 A3 A4 A5 A6 s0 s1 s2 s3 s4 s5 s6

    abbrev b1 : Arm → B1
    b1 = fold-Arm B0 B1 B2 B3 B4 B5 B6 t0 t1 t2 t3 t4 t5 t6

    abbrev Q1 : Arm → Type 0
    Q1 e = h1 (a1 e) ≡ b1 e

    abbrev a2 : Generator → A2
    a2 = fold-Generator A0 A1 A2 A3 A4 A5 A6 s0 s1 s2 s3 s4 s5 s6

    abbrev b2 : Generator → B2
    b2 = fold-Generator B0 B1 B2 B3 B4 B5 B6 t0 t1 t2 t3 t4 t5 t6

    abbrev Q2 : Generator → Type 0
    Q2 e = h2 (a2 e) ≡ b2 e

    abbrev a3 : Generators → A3
    a3 = fold-Generators A0 A1 A2 A3 A4 A5 A6 s0 s1 s2 s3 s4 s5 s6

    abbrev b3 : Generators → B3
    b3 = fold-Generators B0 B1 B2 B3 B4 B5 B6 t0 t1 t2 t3 t4 t5 t6

    abbrev Q3 : Generators → Type 0
    Q3 e = h3 (a3 e) ≡ b3 e

    abbrev a4 : Link → A4
    a4 = fold-Link A0 A1 A2 A3 A4 A5 A6 s0 s1 s2 s3 s4 s5 s6

    abbrev b4 : Link → B4
    b4 = fold-Link B0 B1 B2 B3 B4 B5 B6 t0 t1 t2 t3 t4 t5 t6

    abbrev Q4 : Link → Type 0
    Q4 e = h4 (a4 e) ≡ b4 e

    abbrev a5 : Row → A5
    a5 = fold-Row A0 A1 A2 A3 A4 A5 A6 s0 s1 s2 s3 s4 s5 s6

    abbrev b5 : Row → B5
    b5 = fold-Row B0 B1 B2 B3 B4 B5 B6 t0 t1 t2 t3 t4 t5 t6

    abbrev Q5 : Row → Type 0
    Q5 e = h5 (a5 e) ≡ b5 e

    abbrev a6 : Subscript → A6
    a6 = fold-Subscript A0 A1 A2 A3 A4 A5 A6 s0 s1 s2 s3 s4 s5 s6

    abbrev b6 : Subscript → B6
    b6 = fold-Subscript B0 B1 B2 B3 B4 B5 B6 t0 t1 t2 t3 t4 t5 t6

    abbrev Q6 : Subscript → Type 0
    Q6 e = h6 (a6 e) ≡ b6 e

    all_same : {E C D : Type 0} (b : E → C) (a : E → D) (h : D → C) (xs : List (Such E (λ e. h (a e) ≡ b e))) → map h (map a (map (λ e. e.0) xs)) ≡ map b (map (λ e. e.0) xs)
    all_same b a h [] = refl
    all_same b a h (x ∷ xs) = λ i. x.1 i ∷ all_same b a h xs i

    abbrev Behind0 : Parts Q0 Q1 Q2 Q3 Q4 Q5 Q6 Code-F → Type 0
    Behind0 y = map-Code A0 A1 A2 A3 A4 A5 A6 B0 B1 B2 B3 B4 B5 B6 h0 h1 h2 h3 h4 h5 h6 (map-Code Code Arm Generator Generators Link Row Subscript A0 A1 A2 A3 A4 A5 A6 a0 a1 a2 a3 a4 a5 a6 (bare0 Q0 Q1 Q2 Q3 Q4 Q5 Q6 y)) ≡ map-Code Code Arm Generator Generators Link Row Subscript B0 B1 B2 B3 B4 B5 B6 b0 b1 b2 b3 b4 b5 b6 (bare0 Q0 Q1 Q2 Q3 Q4 Q5 Q6 y)

    abbrev Behind1 : Parts Q0 Q1 Q2 Q3 Q4 Q5 Q6 Arm-F → Type 0
    Behind1 y = map-Arm A0 A1 A2 A3 A4 A5 A6 B0 B1 B2 B3 B4 B5 B6 h0 h1 h2 h3 h4 h5 h6 (map-Arm Code Arm Generator Generators Link Row Subscript A0 A1 A2 A3 A4 A5 A6 a0 a1 a2 a3 a4 a5 a6 (bare1 Q0 Q1 Q2 Q3 Q4 Q5 Q6 y)) ≡ map-Arm Code Arm Generator Generators Link Row Subscript B0 B1 B2 B3 B4 B5 B6 b0 b1 b2 b3 b4 b5 b6 (bare1 Q0 Q1 Q2 Q3 Q4 Q5 Q6 y)

    abbrev Behind2 : Parts Q0 Q1 Q2 Q3 Q4 Q5 Q6 Generator-F → Type 0
    Behind2 y = map-Generator A0 A1 A2 A3 A4 A5 A6 B0 B1 B2 B3 B4 B5 B6 h0 h1 h2 h3 h4 h5 h6 (map-Generator Code Arm Generator Generators Link Row Subscript A0 A1 A2 A3 A4 A5 A6 a0 a1 a2 a3 a4 a5 a6 (bare2 Q0 Q1 Q2 Q3 Q4 Q5 Q6 y)) ≡ map-Generator Code Arm Generator Generators Link Row Subscript B0 B1 B2 B3 B4 B5 B6 b0 b1 b2 b3 b4 b5 b6 (bare2 Q0 Q1 Q2 Q3 Q4 Q5 Q6 y)

    abbrev Behind3 : Parts Q0 Q1 Q2 Q3 Q4 Q5 Q6 Generators-F → Type 0
    Behind3 y = map-Generators A0 A1 A2 A3 A4 A5 A6 B0 B1 B2 B3 B4 B5 B6 h0 h1 h2 h3 h4 h5 h6 (map-Generators Code Arm Generator Generators Link Row Subscript A0 A1 A2 A3 A4 A5 A6 a0 a1 a2 a3 a4 a5 a6 (bare3 Q0 Q1 Q2 Q3 Q4 Q5 Q6 y)) ≡ map-Generators Code Arm Generator Generators Link Row Subscript B0 B1 B2 B3 B4 B5 B6 b0 b1 b2 b3 b4 b5 b6 (bare3 Q0 Q1 Q2 Q3 Q4 Q5 Q6 y)

    abbrev Behind4 : Parts Q0 Q1 Q2 Q3 Q4 Q5 Q6 Link-F → Type 0
    Behind4 y = map-Link A0 A1 A2 A3 A4 A5 A6 B0 B1 B2 B3 B4 B5 B6 h0 h1 h2 h3 h4 h5 h6 (map-Link Code Arm Generator Generators Link Row Subscript A0 A1 A2 A3 A4 A5 A6 a0 a1 a2 a3 a4 a5 a6 (bare4 Q0 Q1 Q2 Q3 Q4 Q5 Q6 y)) ≡ map-Link Code Arm Generator Generators Link Row Subscript B0 B1 B2 B3 B4 B5 B6 b0 b1 b2 b3 b4 b5 b6 (bare4 Q0 Q1 Q2 Q3 Q4 Q5 Q6 y)

    abbrev Behind5 : Parts Q0 Q1 Q2 Q3 Q4 Q5 Q6 Row-F → Type 0
    Behind5 y = map-Row A0 A1 A2 A3 A4 A5 A6 B0 B1 B2 B3 B4 B5 B6 h0 h1 h2 h3 h4 h5 h6 (map-Row Code Arm Generator Generators Link Row Subscript A0 A1 A2 A3 A4 A5 A6 a0 a1 a2 a3 a4 a5 a6 (bare5 Q0 Q1 Q2 Q3 Q4 Q5 Q6 y)) ≡ map-Row Code Arm Generator Generators Link Row Subscript B0 B1 B2 B3 B4 B5 B6 b0 b1 b2 b3 b4 b5 b6 (bare5 Q0 Q1 Q2 Q3 Q4 Q5 Q6 y)

    abbrev Behind6 : Parts Q0 Q1 Q2 Q3 Q4 Q5 Q6 Subscript-F → Type 0
    Behind6 y = map-Subscript A0 A1 A2 A3 A4 A5 A6 B0 B1 B2 B3 B4 B5 B6 h0 h1 h2 h3 h4 h5 h6 (map-Subscript Code Arm Generator Generators Link Row Subscript A0 A1 A2 A3 A4 A5 A6 a0 a1 a2 a3 a4 a5 a6 (bare6 Q0 Q1 Q2 Q3 Q4 Q5 Q6 y)) ≡ map-Subscript Code Arm Generator Generators Link Row Subscript B0 B1 B2 B3 B4 B5 B6 b0 b1 b2 b3 b4 b5 b6 (bare6 Q0 Q1 Q2 Q3 Q4 Q5 Q6 y)

    same0 : (y : Parts Q0 Q1 Q2 Q3 Q4 Q5 Q6 Code-F) → Behind0 y
    same0 (Code-F.Number p n) = refl
    same0 (Code-F.Truth p b) = refl
    same0 (Code-F.Text p w) = refl
    same0 (Code-F.Name p name) = refl
    same0 (Code-F.Chain a ls) = λ i. Code-F.Chain (a.1 i) (all_same b4 a4 h4 ls i)
    same0 (Code-F.Prefix p sign a) = λ i. Code-F.Prefix p sign (a.1 i)
    same0 (Code-F.Parenthesis p a) = λ i. Code-F.Parenthesis p (a.1 i)
    same0 (Code-F.Access p a ss) = λ i. Code-F.Access p (a.1 i) (all_same b6 a6 h6 ss i)
    same0 (Code-F.Call p name es) = λ i. Code-F.Call p name (all_same b0 a0 h0 es i)
    same0 (Code-F.Gathered p t qs a) = λ i. Code-F.Gathered p t (qs.1 i) (a.1 i)
    same0 (Code-F.RepeatEach p qs a) = λ i. Code-F.RepeatEach p (qs.1 i) (a.1 i)
    same0 (Code-F.Array p t es) = λ i. Code-F.Array p t (all_same b0 a0 h0 es i)
    same0 (Code-F.Rows p t rows) = λ i. Code-F.Rows p t (all_same b5 a5 h5 rows i)
    same0 (Code-F.Set p es) = λ i. Code-F.Set p (all_same b0 a0 h0 es i)
    same0 (Code-F.Comprehension p t qs a) = λ i. Code-F.Comprehension p t (qs.1 i) (a.1 i)
    same0 (Code-F.If p arms last) = λ i. Code-F.If p (all_same b1 a1 h1 arms i) (last.1 i)
    same0 (Code-F.Let p es a) = λ i. Code-F.Let p (all_same b0 a0 h0 es i) (a.1 i)
    same0 (Code-F.Convert t a) = λ i. Code-F.Convert t (a.1 i)

    same1 : (y : Parts Q0 Q1 Q2 Q3 Q4 Q5 Q6 Arm-F) → Behind1 y
    same1 y = λ i. record { kind = y.kind; condition = y.condition.1 i; branch = y.branch.1 i }

    same2 : (y : Parts Q0 Q1 Q2 Q3 Q4 Q5 Q6 Generator-F) → Behind2 y
    same2 y = λ i. record { place = y.place; names = y.names; set = y.set.1 i }

    parts3 : (list : List (Such Generator Q2)) (condition : Option (Such Code Q0)) → Behind3 (record { list = list; condition = condition })
    parts3 list None = λ i. record { list = all_same b2 a2 h2 list i; condition = None }
    parts3 list (Some x) = λ i. record { list = all_same b2 a2 h2 list i; condition = Some (x.1 i) }

    same3 : (y : Parts Q0 Q1 Q2 Q3 Q4 Q5 Q6 Generators-F) → Behind3 y
    same3 y = parts3 y.list y.condition

    same4 : (y : Parts Q0 Q1 Q2 Q3 Q4 Q5 Q6 Link-F) → Behind4 y
    same4 y = λ i. record { operator = y.operator; place = y.place; operand = y.operand.1 i }

    same5 : (y : Parts Q0 Q1 Q2 Q3 Q4 Q5 Q6 Row-F) → Behind5 y
    same5 y = λ i. record { elements = all_same b0 a0 h0 y.elements i }

    parts6 : (first : Such Code Q0) (second : Option (Such Code Q0)) → Behind6 (record { first = first; second = second })
    parts6 first None = λ i. record { first = first.1 i; second = None }
    parts6 first (Some x) = λ i. record { first = first.1 i; second = Some (x.1 i) }

    same6 : (y : Parts Q0 Q1 Q2 Q3 Q4 Q5 Q6 Subscript-F) → Behind6 y
    same6 y = parts6 y.first y.second

    node0 : (y : Parts Q0 Q1 Q2 Q3 Q4 Q5 Q6 Code-F) → Q0 (roll-Code (bare0 Q0 Q1 Q2 Q3 Q4 Q5 Q6 y))
    node0 y = ap h0 (fold-roll-Code A0 A1 A2 A3 A4 A5 A6 s0 s1 s2 s3 s4 s5 s6 (bare0 Q0 Q1 Q2 Q3 Q4 Q5 Q6 y)) ∙ e0 (map-Code Code Arm Generator Generators Link Row Subscript A0 A1 A2 A3 A4 A5 A6 a0 a1 a2 a3 a4 a5 a6 (bare0 Q0 Q1 Q2 Q3 Q4 Q5 Q6 y)) ∙ ap t0 (same0 y) ∙ sym (fold-roll-Code B0 B1 B2 B3 B4 B5 B6 t0 t1 t2 t3 t4 t5 t6 (bare0 Q0 Q1 Q2 Q3 Q4 Q5 Q6 y))

    node1 : (y : Parts Q0 Q1 Q2 Q3 Q4 Q5 Q6 Arm-F) → Q1 (roll-Arm (bare1 Q0 Q1 Q2 Q3 Q4 Q5 Q6 y))
    node1 y = ap h1 (fold-roll-Arm A0 A1 A2 A3 A4 A5 A6 s0 s1 s2 s3 s4 s5 s6 (bare1 Q0 Q1 Q2 Q3 Q4 Q5 Q6 y)) ∙ e1 (map-Arm Code Arm Generator Generators Link Row Subscript A0 A1 A2 A3 A4 A5 A6 a0 a1 a2 a3 a4 a5 a6 (bare1 Q0 Q1 Q2 Q3 Q4 Q5 Q6 y)) ∙ ap t1 (same1 y) ∙ sym (fold-roll-Arm B0 B1 B2 B3 B4 B5 B6 t0 t1 t2 t3 t4 t5 t6 (bare1 Q0 Q1 Q2 Q3 Q4 Q5 Q6 y))

    node2 : (y : Parts Q0 Q1 Q2 Q3 Q4 Q5 Q6 Generator-F) → Q2 (roll-Generator (bare2 Q0 Q1 Q2 Q3 Q4 Q5 Q6 y))
    node2 y = ap h2 (fold-roll-Generator A0 A1 A2 A3 A4 A5 A6 s0 s1 s2 s3 s4 s5 s6 (bare2 Q0 Q1 Q2 Q3 Q4 Q5 Q6 y)) ∙ e2 (map-Generator Code Arm Generator Generators Link Row Subscript A0 A1 A2 A3 A4 A5 A6 a0 a1 a2 a3 a4 a5 a6 (bare2 Q0 Q1 Q2 Q3 Q4 Q5 Q6 y)) ∙ ap t2 (same2 y) ∙ sym (fold-roll-Generator B0 B1 B2 B3 B4 B5 B6 t0 t1 t2 t3 t4 t5 t6 (bare2 Q0 Q1 Q2 Q3 Q4 Q5 Q6 y))

    node3 : (y : Parts Q0 Q1 Q2 Q3 Q4 Q5 Q6 Generators-F) → Q3 (roll-Generators (bare3 Q0 Q1 Q2 Q3 Q4 Q5 Q6 y))
    node3 y = ap h3 (fold-roll-Generators A0 A1 A2 A3 A4 A5 A6 s0 s1 s2 s3 s4 s5 s6 (bare3 Q0 Q1 Q2 Q3 Q4 Q5 Q6 y)) ∙ e3 (map-Generators Code Arm Generator Generators Link Row Subscript A0 A1 A2 A3 A4 A5 A6 a0 a1 a2 a3 a4 a5 a6 (bare3 Q0 Q1 Q2 Q3 Q4 Q5 Q6 y)) ∙ ap t3 (same3 y) ∙ sym (fold-roll-Generators B0 B1 B2 B3 B4 B5 B6 t0 t1 t2 t3 t4 t5 t6 (bare3 Q0 Q1 Q2 Q3 Q4 Q5 Q6 y))

    node4 : (y : Parts Q0 Q1 Q2 Q3 Q4 Q5 Q6 Link-F) → Q4 (roll-Link (bare4 Q0 Q1 Q2 Q3 Q4 Q5 Q6 y))
    node4 y = ap h4 (fold-roll-Link A0 A1 A2 A3 A4 A5 A6 s0 s1 s2 s3 s4 s5 s6 (bare4 Q0 Q1 Q2 Q3 Q4 Q5 Q6 y)) ∙ e4 (map-Link Code Arm Generator Generators Link Row Subscript A0 A1 A2 A3 A4 A5 A6 a0 a1 a2 a3 a4 a5 a6 (bare4 Q0 Q1 Q2 Q3 Q4 Q5 Q6 y)) ∙ ap t4 (same4 y) ∙ sym (fold-roll-Link B0 B1 B2 B3 B4 B5 B6 t0 t1 t2 t3 t4 t5 t6 (bare4 Q0 Q1 Q2 Q3 Q4 Q5 Q6 y))

    node5 : (y : Parts Q0 Q1 Q2 Q3 Q4 Q5 Q6 Row-F) → Q5 (roll-Row (bare5 Q0 Q1 Q2 Q3 Q4 Q5 Q6 y))
    node5 y = ap h5 (fold-roll-Row A0 A1 A2 A3 A4 A5 A6 s0 s1 s2 s3 s4 s5 s6 (bare5 Q0 Q1 Q2 Q3 Q4 Q5 Q6 y)) ∙ e5 (map-Row Code Arm Generator Generators Link Row Subscript A0 A1 A2 A3 A4 A5 A6 a0 a1 a2 a3 a4 a5 a6 (bare5 Q0 Q1 Q2 Q3 Q4 Q5 Q6 y)) ∙ ap t5 (same5 y) ∙ sym (fold-roll-Row B0 B1 B2 B3 B4 B5 B6 t0 t1 t2 t3 t4 t5 t6 (bare5 Q0 Q1 Q2 Q3 Q4 Q5 Q6 y))

    node6 : (y : Parts Q0 Q1 Q2 Q3 Q4 Q5 Q6 Subscript-F) → Q6 (roll-Subscript (bare6 Q0 Q1 Q2 Q3 Q4 Q5 Q6 y))
    node6 y = ap h6 (fold-roll-Subscript A0 A1 A2 A3 A4 A5 A6 s0 s1 s2 s3 s4 s5 s6 (bare6 Q0 Q1 Q2 Q3 Q4 Q5 Q6 y)) ∙ e6 (map-Subscript Code Arm Generator Generators Link Row Subscript A0 A1 A2 A3 A4 A5 A6 a0 a1 a2 a3 a4 a5 a6 (bare6 Q0 Q1 Q2 Q3 Q4 Q5 Q6 y)) ∙ ap t6 (same6 y) ∙ sym (fold-roll-Subscript B0 B1 B2 B3 B4 B5 B6 t0 t1 t2 t3 t4 t5 t6 (bare6 Q0 Q1 Q2 Q3 Q4 Q5 Q6 y))

    pub fused : (e : Code) → h0 (fold-Code A0 A1 A2 A3 A4 A5 A6 s0 s1 s2 s3 s4 s5 s6 e) ≡ fold-Code B0 B1 B2 B3 B4 B5 B6 t0 t1 t2 t3 t4 t5 t6 e
    fused = induct Q0 Q1 Q2 Q3 Q4 Q5 Q6 node0 node1 node2 node3 node4 node5 node6
