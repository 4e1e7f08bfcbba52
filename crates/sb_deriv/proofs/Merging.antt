-- Two lists of choices become one.
use Rattle.std.proofs.Common.{◌≡◌, ℕ, suc, ◌+◌, ◌<◌, ◌≤◌, Bool, true, false, cond, List, [], ◌∷◌, ◌++◌, length, take, drop, get_or, refl, sym, ap, ap₂, subst, ◌∙◌, arith, min, length-drop}
use Rattle.std.specs.Prelude.{nat_le, ◌==◌}
use Rattle.std.proofs.lemmas.Bool.{leb-true, lt-leb, eqb-true}
use Rattle.std.proofs.lemmas.Bool.Decides.{nat_tests}
use Rattle.std.proofs.lemmas.List.{take_more, drop_more, take_all}
use Rattle.sb_deriv.specs.Pieces.{value_from, rises, covers}
use Rattle.sb_deriv.specs.Choices.{first_of, count_at, last_value}
use Rattle.sb_deriv.proofs.PieceFacts.{rises_head, rises_le, rises_rest, rises_later_end, rises_from_first, rises_pushed, last_from, value_pushed, covers_rises, covers_first, covers_pushed}

-- a list of which what is taken ends, and what is left begins, at a number
pub record Side (L : List (ℕ × List ℕ)) (i f : ℕ) : Type 0 where
  pub within : i ≤ length L
  pub to_come : rises f (drop i L) 0x30000 ≡ true
  pub taken : rises 0 (take i L) f ≡ true

pub record Stepped (L : List (ℕ × List ℕ)) (i i' f : ℕ) : Type 0 where
  pub within : i' ≤ length L
  pub later : f < first_of 0x30000 (drop i' L)
  pub to_come : rises (suc f) (drop i' L) 0x30000 ≡ true
  pub taken : rises 0 (take i' L) (suc f) ≡ true
  pub new : (c : ℕ) → f ≤ c → value_from [] (take i' L) c ≡ last_value [] (take i' L)
  pub old : (c : ℕ) → c < f → value_from [] (take i' L) c ≡ value_from [] (take i L) c

stay : (L : List (ℕ × List ℕ)) (i f : ℕ) → Side L i f → f < first_of 0x30000 (drop i L) → Stepped L i i f
stay L i f s l =
    let t : rises 0 (take i L) (suc f) ≡ true = rises_later_end 0 (take i L) f (suc f) (omega arith) s.taken in
    record {
      within = s.within;
      later = l;
      to_come = rises_from_first f (suc f) (drop i L) 0x30000 s.to_come (omega (arith, l));
      taken = t;
      new = λ c m. last_from [] 0 (take i L) (suc f) c t (omega (arith, m));
      old = λ c m. refl;
    }

pub left_over : {A : Type 0} (L : List A) (i : ℕ) (p : A) (ps : List A) → drop i L ≡ p ∷ ps → i < length L
left_over {A} L i p ps is =
    let e : length (drop i L) ≡ suc (length ps) = ap length is in
    omega (arith, e, length-drop i L)

advance : (L : List (ℕ × List ℕ)) (i : ℕ) (p : ℕ × List ℕ) (ps : List (ℕ × List ℕ)) → Side L i p.0 → drop i L ≡ p ∷ ps
    → Stepped L i (i + 1) p.0
advance L i p ps s is =
    let l : i < length L = left_over L i p ps is in
    let m : drop i L ≡ get_or L i p ∷ drop (i + 1) L = drop_more L i p l in
    let g : get_or L i p ≡ p = cc in
    let d : drop (i + 1) L ≡ ps = cc in
    let t : take (i + 1) L ≡ take i L ++ p ∷ [] = take_more L i p l ∙ ap (λ x. take i L ++ x ∷ []) g in
    let r : rises p.0 (p ∷ ps) 0x30000 ≡ true = ap (λ xs. rises p.0 xs 0x30000) (sym is) ∙ s.to_come in
    let q : rises (suc p.0) ps 0x30000 ≡ true = rises_rest p.0 p ps 0x30000 r in
    let u : rises 0 (take (i + 1) L) (suc p.0) ≡ true =
    ap (λ xs. rises 0 xs (suc p.0)) t ∙ rises_pushed 0 (take i L) p.0 p.1 (suc p.0) s.taken (omega arith) in
    let h : suc p.0 ≤ first_of 0x30000 ps = rises_head (suc p.0) ps 0x30000 q in
    record {
      within = omega (arith, l);
      later = rw d h;
      to_come = rw d q;
      taken = u;
      new = λ c k. last_from [] 0 (take (i + 1) L) (suc p.0) c u (omega (arith, k));
      old = λ c k. ap (λ xs. value_from [] xs c) t ∙ value_pushed [] (take i L) p.0 p.1 c
          ∙ ap (λ b. cond b p.1 (value_from [] (take i L) c)) (lt-leb p.0 c k);
    }

abbrev if_one : Bool → ℕ
if_one b = cond b 1 0

pub stepped : (L : List (ℕ × List ℕ)) (i i' f : ℕ) → Side L i f → f < 0x30000 → i' ≡ i + count_at f (drop i L)
    → Stepped L i i' f
stepped L i i' f s l is = go (drop i L) refl
  where
    go : (post : List (ℕ × List ℕ)) → drop i L ≡ post → Stepped L i i' f
    go [] d =
        let z : i ≡ i' = omega (arith, ap (λ xs. count_at f xs) d) in
        subst (λ (k : ℕ). Stepped L i k f) z (stay L i f s (rw d l))
    go (p ∷ ps) d = test (p.0 == f) refl
      where
        test : (b : Bool) → (p.0 == f) ≡ b → Stepped L i i' f
        test true e =
            let q : p.0 ≡ f = eqb-true p.0 f e in
            let u : count_at f (p ∷ ps) ≡ 1 = ap (λ b. (if_one b)) e in
            let z : i + 1 ≡ i' = omega (arith, ap (λ xs. count_at f xs) d, u) in
            subst (λ (k : ℕ). Stepped L i k f) z
            (subst (λ (g : ℕ). Stepped L i (i + 1) g) q
            (advance L i p ps (subst (λ (g : ℕ). Side L i g) (sym q) s) d))
        test false e =
            let u : count_at f (p ∷ ps) ≡ 0 = ap (λ b. (if_one b)) e in
            let z : i ≡ i' = omega (arith, ap (λ xs. count_at f xs) d, u) in
            let h : f ≤ first_of 0x30000 (drop i L) = rises_head f (drop i L) 0x30000 s.to_come in
            let g : first_of 0x30000 (drop i L) ≡ p.0 = ap (first_of 0x30000) d in
            let n : f < first_of 0x30000 (drop i L) = grind (arith, nat_tests, h, g, e) in
            subst (λ (k : ℕ). Stepped L i k f) z (stay L i f s n)

pub record Merging (g : List ℕ → List ℕ → List ℕ) (L R out : List (ℕ × List ℕ)) (i j f : ℕ) : Type 0 where
  pub next : f ≡ min (first_of 0x30000 (drop i L)) (first_of 0x30000 (drop j R))
  pub left : Side L i f
  pub right : Side R j f
  pub whole : covers out f ≡ true
  pub values : (c : ℕ) → value_from [] out c ≡ g (value_from [] (take i L) c) (value_from [] (take j R) c)

side_init : (L : List (ℕ × List ℕ)) → covers L 0x30000 ≡ true → Side L 0 0
unfolding rises
side_init L h = record { within = omega arith; to_come = covers_rises L 0x30000 h; taken = refl }

pub merge_init : (g : List ℕ → List ℕ → List ℕ) (L R out : List (ℕ × List ℕ)) → g [] [] ≡ []
    → covers L 0x30000 ≡ true → covers R 0x30000 ≡ true → out ≡ [] → Merging g L R out 0 0 0
unfolding value_from covers
merge_init g L R out e l r o =
    let p : first_of 0x30000 L ≡ 0 = covers_first L 0x30000 l in
    rw o (record {
      next = let q : first_of 0x30000 R ≡ 0 = covers_first R 0x30000 r in sym (ap₂ min p q);
      left = side_init L l;
      right = side_init R r;
      whole = refl;
      values = λ c. sym e;
    })

side_next : (L : List (ℕ × List ℕ)) (i i' f f' : ℕ) → Stepped L i i' f → f < f' → f' ≤ first_of 0x30000 (drop i' L)
    → Side L i' f'
side_next L i i' f f' s l m = record {
  within = s.within;
  to_come = rises_from_first (suc f) f' (drop i' L) 0x30000 s.to_come m;
  taken = rises_later_end 0 (take i' L) (suc f) f' (omega (arith, l)) s.taken;
}

pub merge_step : (g : List ℕ → List ℕ → List ℕ) (L R out out' : List (ℕ × List ℕ)) (i j f i' j' f' : ℕ)
    → Merging g L R out i j f → f < 0x30000 →
    i' ≡ i + count_at f (drop i L) → j' ≡ j + count_at f (drop j R)
    → out' ≡ out ++ (f, g (last_value [] (take i' L)) (last_value [] (take j' R))) ∷ [] →
    f' ≡ min (first_of 0x30000 (drop i' L)) (first_of 0x30000 (drop j' R)) → Merging g L R out' i' j' f'
merge_step g L R out out' i j f i' j' f' m l p q o n =
    let s = stepped L i i' f m.left l p in
    let t = stepped R j j' f m.right l q in
    let a : f < first_of 0x30000 (drop i' L) = s.later in
    let b : f < first_of 0x30000 (drop j' R) = t.later in
    let k : f < f' = omega (arith, n, a, b) in
    record {
      next = n;
      left = side_next L i i' f f' s k (omega (arith, n));
      right = side_next R j j' f f' t k (omega (arith, n));
      whole = rw o (covers_pushed out f (g (last_value [] (take i' L)) (last_value [] (take j' R))) f' m.whole k);
      values = λ c. ap (λ xs. value_from [] xs c) o
          ∙ value_pushed [] out f (g (last_value [] (take i' L)) (last_value [] (take j' R))) c
          ∙ at s t c (nat_le f c) refl;
    }
  where
    at : Stepped L i i' f → Stepped R j j' f → (c : ℕ) (u : Bool) → nat_le f c ≡ u →
        cond u (g (last_value [] (take i' L)) (last_value [] (take j' R))) (value_from [] out c)
        ≡ g (value_from [] (take i' L) c) (value_from [] (take j' R) c)
    at s t c true h =
        let u : f ≤ c = leb-true f c h in
        sym (ap₂ g (s.new c u) (t.new c u))
    at s t c false h =
        let u : c < f = grind (arith, nat_tests) in
        m.values c ∙ sym (ap₂ g (s.old c u) (t.old c u))

nothing_left : (L : List (ℕ × List ℕ)) (i f : ℕ) → Side L i f → 0x30000 ≤ first_of 0x30000 (drop i L) → take i L ≡ L
nothing_left L i f s l = go (drop i L) refl
  where
    go : (post : List (ℕ × List ℕ)) → drop i L ≡ post → take i L ≡ L
    go [] d = take_all i L (let e : length (drop i L) ≡ 0 = ap length d in omega (arith, e, length-drop i L))
    go (p ∷ ps) d =
        let r : rises f (p ∷ ps) 0x30000 ≡ true = ap (λ xs. rises f xs 0x30000) (sym d) ∙ s.to_come in
        let q : suc p.0 ≤ 0x30000 = rises_le (suc p.0) ps 0x30000 (rises_rest f p ps 0x30000 r) in
        let g : first_of 0x30000 (drop i L) ≡ p.0 = ap (first_of 0x30000) d in
        absurd (omega (arith, q, g, l))

pub merged : (g : List ℕ → List ℕ → List ℕ) (L R out : List (ℕ × List ℕ)) (i j f : ℕ) → Merging g L R out i j f
    → 0x30000 ≤ f →
    (covers out 0x30000 ≡ true) × ((c : ℕ) → value_from [] out c ≡ g (value_from [] L c) (value_from [] R c))
merged g L R out i j f m l =
    let a : rises f (drop i L) 0x30000 ≡ true = m.left.to_come in
    let z : f ≤ 0x30000 = rises_le f (drop i L) 0x30000 a in
    let e : f ≡ 0x30000 = omega (arith, z, l) in
    let p : take i L ≡ L = nothing_left L i f m.left (omega (arith, m.next, l)) in
    let q : take j R ≡ R = nothing_left R j f m.right (omega (arith, m.next, l)) in (
      ap (λ x. covers out x) (sym e) ∙ m.whole,
      λ c. m.values c
          ∙ ap₂ (λ x y. g (value_from [] x c) (value_from [] y c)) p q,
    )

last_pushed : (d : List ℕ) (xs : List (ℕ × List ℕ)) (x : ℕ × List ℕ) → last_value d (xs ++ x ∷ []) ≡ x.1
unfolding last_value
last_pushed d [] x = refl
last_pushed d (y ∷ xs) x = last_pushed y.1 xs x

pub latest_is : (L : List (ℕ × List ℕ)) (i k : ℕ) (x : ℕ × List ℕ) → i ≤ length L → i ≡ suc k → x ≡ get_or L k x
    → x.1 ≡ last_value [] (take i L)
latest_is L i k x l e is =
    let m : k < length L = omega arith in
    let t : take i L ≡ take k L ++ x ∷ [] = ap (λ n. take n L) (let q : i ≡ k + 1 = omega arith in q)
    ∙ take_more L k x m ∙ ap (λ y. take k L ++ y ∷ []) (sym is) in
    sym (ap (last_value []) t ∙ last_pushed [] (take k L) x)

pub latest_none : (L : List (ℕ × List ℕ)) (i : ℕ) → i ≡ 0 → [] ≡ last_value [] (take i L)
unfolding last_value
latest_none L i z = ap (λ n. last_value [] (take n L)) (sym z)

pub next_grows : (g : List ℕ → List ℕ → List ℕ) (L R out : List (ℕ × List ℕ)) (i j f i' j' f' : ℕ)
    → Merging g L R out i j f → f < 0x30000
    → i' ≡ i + count_at f (drop i L) → j' ≡ j + count_at f (drop j R) →
    f' ≡ min (first_of 0x30000 (drop i' L)) (first_of 0x30000 (drop j' R)) → f < f'
next_grows g L R out i j f i' j' f' m l p q n =
    let s = stepped L i i' f m.left l p in
    let t = stepped R j j' f m.right l q in
    let a : f < first_of 0x30000 (drop i' L) = s.later in
    let b : f < first_of 0x30000 (drop j' R) = t.later in
    omega (arith, n, a, b)
