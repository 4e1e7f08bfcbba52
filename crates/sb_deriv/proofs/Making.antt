-- A target is made for each piece.
use Rattle.std.proofs.Common.{◌≡◌, ℕ, suc, ◌+◌, ◌<◌, ◌≤◌, Bool, true, false, cond, List, [], ◌∷◌, ◌++◌, length, take, drop, get_or, refl, sym, ap, ap₂, subst, ◌∙◌, arith, length-drop}
use Rattle.std.specs.Prelude.{nat_le}
use Rattle.std.specs.List.{All}
use Rattle.std.proofs.lemmas.Bool.{eq-eqb}
use Rattle.std.proofs.lemmas.Bool.Decides.{nat_tests}
use Rattle.std.proofs.lemmas.List.{take_more, drop_more, take_all, get_or_default}
use Rattle.std.proofs.lemmas.List.Elements.{All-nil, All-cons, All-append}
use Rattle.sb_lang.specs.Regex.{Regex}
use Rattle.sb_lang.specs.Constructors.{mkcat, mkalt, mkand, mknot, mkpath}
use Rattle.sb_regex.specs.Numbered.{regex_at, regexes_at, AllNumbers, Extends, Names}
use Rattle.sb_deriv.specs.declared.operation.Operation.{Operation}
use Rattle.sb_deriv.specs.declared.operation.Operation.TheVariants as operation
use Rattle.sb_deriv.specs.Pieces.{value_from, value_at, rises, covers, are_merged, targets_of}
use Rattle.sb_deriv.specs.Faithful.{IsMapOf}
use Rattle.sb_deriv.specs.Choices.{first_of, made, list_of, OperandIsKnown, AreMade}
use Rattle.sb_regex.proofs.CallerLemmas.{extends_same, extends_more, at_kept, ats_kept, names_at, names_below, names_kept, numbers_kept, one_number}
use Rattle.sb_deriv.proofs.PieceFacts.{rises_head, rises_rest, rises_from_first, value_here, starts_below, value_pushed, value_below, map_some, covers_rises, covers_first}

pub made_later : (old new : List Regex) (op : Operation) (ids : List ℕ) → Extends old new → OperandIsKnown old op
    → AllNumbers old ids → made new op (regexes_at new ids) ≡ made old op (regexes_at old ids)
unfolding made
made_later old new operation.Alt ids e k h = ap mkalt (ats_kept old new ids e h)
made_later old new operation.And ids e k h = ap mkand (ats_kept old new ids e h)
made_later old new operation.Not [] e k h = refl
made_later old new operation.Not (i ∷ ids) e k h = ap mknot (at_kept old new i e (h 0 0 (omega arith)))
made_later old new (operation.Cat b) [] e k h = refl
made_later old new (operation.Cat b) (i ∷ ids) e k h =
    ap₂ mkcat (at_kept old new i e (h 0 0 (omega arith))) (at_kept old new b e k)
made_later old new (operation.Path b) [] e k h = refl
made_later old new (operation.Path b) (i ∷ ids) e k h =
    ap₂ mkpath (at_kept old new i e (h 0 0 (omega arith))) (at_kept old new b e k)

pub operand_later : (old new : List Regex) (op : Operation) → Extends old new → OperandIsKnown old op
    → OperandIsKnown new op
operand_later old new operation.Alt e k = tt
operand_later old new operation.And e k = tt
operand_later old new operation.Not e k = tt
operand_later old new (operation.Cat b) e k = numbers_kept old new (b ∷ []) e (one_number old b k) 0 0 (omega arith)
operand_later old new (operation.Path b) e k = numbers_kept old new (b ∷ []) e (one_number old b k) 0 0 (omega arith)

pub record Making (cs : List (ℕ × List ℕ)) (rs0 rs : List Regex) (op : Operation) (k : ℕ) (out : List (ℕ × ℕ)) : Type 0
  where
    pub extends : Extends rs0 rs
    pub to_come : rises (first_of 0x30000 (drop k cs)) (drop k cs) 0x30000 ≡ true
    pub whole : covers out (first_of 0x30000 (drop k cs)) ≡ true
    pub merged : are_merged out ≡ true
    pub targets : AllNumbers rs (targets_of out)
    pub some : 0 < k → 0 < length out
    pub values : (c : ℕ) → 0 < k
        → regex_at rs (value_at out c) ≡ made rs0 op (regexes_at rs0 (value_from [] (take k cs) c))

pub making_init : (cs : List (ℕ × List ℕ)) (rs : List Regex) (op : Operation) (out : List (ℕ × ℕ))
    → covers cs 0x30000 ≡ true → out ≡ [] → Making cs rs rs op 0 out
unfolding covers are_merged
making_init cs rs op out h o =
    let z : first_of 0x30000 cs ≡ 0 = covers_first cs 0x30000 h in
    rw o (record {
      extends = extends_same rs;
      to_come = rises_from_first 0 (first_of 0x30000 cs) cs 0x30000 (covers_rises cs 0x30000 h) (omega arith);
      whole = eq-eqb (first_of 0x30000 cs) 0 z;
      merged = refl;
      targets = All-nil (λ i. i < length rs);
      some = λ l. absurd (omega arith);
      values = λ c l. absurd (omega arith);
    })

-- the first number of the next piece
pub next_first : (cs : List (ℕ × List ℕ)) (k : ℕ) (x : ℕ × List ℕ) → k < length cs → x ≡ get_or cs k x
    → drop k cs ≡ x ∷ drop (k + 1) cs
next_first cs k x l is = drop_more cs k x l ∙ ap (λ y. y ∷ drop (k + 1) cs) (sym is)

pub choice_numbers : (cs : List (ℕ × List ℕ)) (rs : List Regex) (k : ℕ) (x : ℕ × List ℕ) → covers cs 0x30000 ≡ true
    → k < length cs → x ≡ get_or cs k x → ((c : ℕ) → c < 0x30000 → AllNumbers rs (value_from [] cs c))
    → AllNumbers rs x.1
choice_numbers cs rs k x h l is n =
    let r = covers_rises cs 0x30000 h in
    let v : value_from [] cs x.0 ≡ x.1 = value_here [] 0 cs 0x30000 k x r l is in
    subst (AllNumbers rs) v (n x.0 (starts_below 0 cs 0x30000 k x r l is))

pub piece_whole : (cs : List (ℕ × List ℕ)) (rs0 rs : List Regex) (op : Operation) (k : ℕ) (out : List (ℕ × ℕ))
    (x : ℕ × List ℕ) → Making cs rs0 rs op k out → k < length cs → x ≡ get_or cs k x → covers out x.0 ≡ true
piece_whole cs rs0 rs op k out x m l is = ap (λ n. covers out n) (sym (ap (first_of 0x30000) (next_first cs k x l is)))
    ∙ m.whole

pub making_step : (cs : List (ℕ × List ℕ)) (rs0 rs rs' : List Regex) (op : Operation) (k : ℕ) (out out' : List (ℕ × ℕ))
    (x : ℕ × List ℕ) (t : ℕ) →
    Making cs rs0 rs op k out → covers cs 0x30000 ≡ true → k < length cs → x ≡ get_or cs k x → AllNumbers rs0 x.1
    → OperandIsKnown rs0 op →
    Names rs' t (made rs op (regexes_at rs x.1)) → Extends rs rs' →
    ((e : ℕ) → x.0 < e → covers out' e ≡ true) → are_merged out' ≡ true →
    ((c : ℕ) → value_at out' c ≡ cond (nat_le x.0 c) t (value_at out c)) →
    ((n : ℕ) → t < n → All (λ i. i < n) (targets_of out) → All (λ i. i < n) (targets_of out')) →
    Making cs rs0 rs' op (k + 1) out'
making_step cs rs0 rs rs' op k out out' x t m h l is known operand names e whole merged value targets =
    let d : drop k cs ≡ x ∷ drop (k + 1) cs = next_first cs k x l is in
    let r : rises (first_of 0x30000 (drop k cs)) (x ∷ drop (k + 1) cs) 0x30000 ≡ true =
    ap (λ xs. rises (first_of 0x30000 (drop k cs)) xs 0x30000) (sym d) ∙ m.to_come in
    let q : rises (suc x.0) (drop (k + 1) cs) 0x30000 ≡ true =
    rises_rest (first_of 0x30000 (drop k cs)) x (drop (k + 1) cs) 0x30000 r in
    let n : suc x.0 ≤ first_of 0x30000 (drop (k + 1) cs) = rises_head (suc x.0) (drop (k + 1) cs) 0x30000 q in
    record {
      extends = extends_more rs0 rs rs' m.extends e;
      to_come = rises_from_first (suc x.0) (first_of 0x30000 (drop (k + 1) cs)) (drop (k + 1) cs) 0x30000 q
          (omega arith);
      whole = whole (first_of 0x30000 (drop (k + 1) cs)) n;
      merged = merged;
      targets = targets (length rs') (names_below rs' t _ names) (numbers_kept rs rs' (targets_of out) e m.targets);
      some = λ z. map_some out' (suc x.0) (omega arith) (whole (suc x.0) (omega arith));
      values = λ c z. ap (regex_at rs') (value c) ∙ at c (nat_le x.0 c) refl;
    }
  where
    taken : (c : ℕ) → value_from [] (take (k + 1) cs) c ≡ cond (nat_le x.0 c) x.1 (value_from [] (take k cs) c)
    taken c =
        ap (λ xs. value_from [] xs c) (take_more cs k x l ∙ ap (λ y. take k cs ++ y ∷ []) (sym is))
        ∙ value_pushed [] (take k cs) x.0 x.1 c

    positive : (c : ℕ) → nat_le x.0 c ≡ false → (k ≡ 0 → ⊥)
    positive c u z =
        let f : first_of 0x30000 cs ≡ 0 = covers_first cs 0x30000 h in
        let d : drop k cs ≡ x ∷ drop (k + 1) cs = next_first cs k x l is in
        let g : first_of 0x30000 (drop k cs) ≡ x.0 = ap (first_of 0x30000) d in
        let i : first_of 0x30000 (drop k cs) ≡ first_of 0x30000 cs = ap (λ j. first_of 0x30000 (drop j cs)) z in
        let y : x.0 ≡ 0 = omega arith in
        grind (arith, nat_tests, y, u)

    number : (c : ℕ) (o : List (ℕ × ℕ)) → AllNumbers rs (targets_of o) → 0 < length o → value_at o c < length rs
    number c [] a z = absurd (omega arith)
    number c (p ∷ ps) a z =
        let i : p.1 < length rs = a 0 0 (omega arith) in value_below 0 (length rs) (p ∷ ps) c (omega arith) a

    at : (c : ℕ) (u : Bool) → nat_le x.0 c ≡ u
        → regex_at rs' (cond u t (value_at out c)) ≡ made rs0 op (regexes_at rs0 (value_from [] (take (k + 1) cs) c))
    at c true u =
        names_at rs' t _ names ∙ made_later rs0 rs op x.1 m.extends operand known
        ∙ ap (λ ids. made rs0 op (regexes_at rs0 ids))
        (sym (taken c ∙ ap (λ b. cond b x.1 (value_from [] (take k cs) c)) u))
    at c false u =
        let z : 0 < k = grind (arith, positive c u) in
        at_kept rs rs' (value_at out c) e (number c out m.targets (m.some z)) ∙ m.values c z
        ∙ ap (λ ids. made rs0 op (regexes_at rs0 ids))
        (sym (taken c ∙ ap (λ b. cond b x.1 (value_from [] (take k cs) c)) u))

-- the same of the piece at a place

pub numbers_at : (cs : List (ℕ × List ℕ)) (rs : List Regex) (k : ℕ) → covers cs 0x30000 ≡ true → k < length cs
    → ((c : ℕ) → c < 0x30000 → AllNumbers rs (value_from [] cs c)) → AllNumbers rs (list_of cs k)
numbers_at cs rs k h l n =
    choice_numbers cs rs k (get_or cs k (0, [])) h l (get_or_default cs k (0, []) (get_or cs k (0, [])) l) n

pub whole_at : (cs : List (ℕ × List ℕ)) (rs0 rs : List Regex) (op : Operation) (k : ℕ) (out : List (ℕ × ℕ))
    → Making cs rs0 rs op k out → k < length cs → covers out (get_or cs k (0, [])).0 ≡ true
whole_at cs rs0 rs op k out m l =
    piece_whole cs rs0 rs op k out (get_or cs k (0, [])) m l (get_or_default cs k (0, []) (get_or cs k (0, [])) l)

pub making_at : (cs : List (ℕ × List ℕ)) (rs0 rs rs' : List Regex) (op : Operation) (k : ℕ) (out out' : List (ℕ × ℕ))
    (t : ℕ) → Making cs rs0 rs op k out → covers cs 0x30000 ≡ true → k < length cs → AllNumbers rs0 (list_of cs k)
    → OperandIsKnown rs0 op →
    Names rs' t (made rs op (regexes_at rs (list_of cs k))) → Extends rs rs' →
    ((e : ℕ) → (get_or cs k (0, [])).0 < e → covers out' e ≡ true) → are_merged out' ≡ true →
    ((c : ℕ) → value_at out' c ≡ cond (nat_le (get_or cs k (0, [])).0 c) t (value_at out c)) →
    ((n : ℕ) → t < n → All (λ i. i < n) (targets_of out) → All (λ i. i < n) (targets_of out')) →
    Making cs rs0 rs' op (k + 1) out'
making_at cs rs0 rs rs' op k out out' t m h l =
    making_step cs rs0 rs rs' op k out out' (get_or cs k (0, [])) t m h l
    (get_or_default cs k (0, []) (get_or cs k (0, [])) l)

pub made_each : (cs : List (ℕ × List ℕ)) (rs0 rs : List Regex) (op : Operation) (k : ℕ) (out : List (ℕ × ℕ))
    → Making cs rs0 rs op k out → covers cs 0x30000 ≡ true → length cs ≤ k →
    IsMapOf rs (λ c. made rs0 op (regexes_at rs0 (value_from [] cs c))) out
made_each cs rs0 rs op k out m h l =
    let z : length (drop k cs) ≡ 0 = omega (arith, length-drop k cs) in
    let p : 0 < length cs = map_some cs 0x30000 (omega arith) h in
    record {
      ordered = record {
        whole = ap (λ n. covers out n) (sym (first_of_none (drop k cs) z)) ∙ m.whole;
        merged =
            m.merged;
      };
      targets = m.targets;
      values = λ c u. m.values c (omega arith)
          ∙ ap (λ xs. made rs0 op (regexes_at rs0 (value_from [] xs c))) (take_all k cs l);
    }
  where
    first_of_none : (xs : List (ℕ × List ℕ)) → length xs ≡ 0 → first_of 0x30000 xs ≡ 0x30000
    first_of_none [] e = refl
    first_of_none (x ∷ xs) e = absurd (omega arith)

-- what was made stays, and one more is made

pub no_made : (rs : List Regex) (op : Operation) (cs : List (ℕ × List ℕ)) (ms : List (ℕ × ℕ)) → ms ≡ []
    → AreMade rs op cs ms
no_made rs op cs ms is k d l = absurd (omega (arith, ap length is, l))

pub made_stay : (old new : List Regex) (op : Operation) (cs : List (ℕ × List ℕ)) (ms : List (ℕ × ℕ))
    → Extends old new → OperandIsKnown old op → AreMade old op cs ms → AreMade new op cs ms
made_stay old new op cs ms e known h k d l =
    let m = h k d l in (
      m.0,
      numbers_kept old new (list_of cs (get_or ms k d).0) e m.1,
      subst (λ (r : Regex). Names new (get_or ms k d).1 r)
          (sym (made_later old new op (list_of cs (get_or ms k d).0) e known m.1))
          (names_kept old new (get_or ms k d).1 (made old op (regexes_at old (list_of cs (get_or ms k d).0))) e m.2),
    )

abbrev IsOne : List Regex → Operation → List (ℕ × List ℕ) → ℕ × ℕ → Type 0
IsOne rs op cs m =
    (m.0 < length cs) × AllNumbers rs (list_of cs m.0) × Names rs m.1 (made rs op (regexes_at rs (list_of cs m.0)))

pub made_more : (old new : List Regex) (op : Operation) (cs : List (ℕ × List ℕ)) (ms ms' : List (ℕ × ℕ)) (i t : ℕ)
    → Extends old new → OperandIsKnown old op → AreMade old op cs ms → ms' ≡ ms ++ (i, t) ∷ [] → i < length cs
    → AllNumbers old (list_of cs i) → Names new t (made old op (regexes_at old (list_of cs i))) → AreMade new op cs ms'
made_more old new op cs ms ms' i t e known h is l n name =
    subst (λ (xs : List (ℕ × ℕ)). AreMade new op cs xs) (sym is)
    (All-append (IsOne new op cs) ms ((i, t) ∷ []) (made_stay old new op cs ms e known h)
    (All-cons (IsOne new op cs) (i, t) [] one (All-nil (IsOne new op cs))))
  where
    same : Names new t (made new op (regexes_at new (list_of cs i)))
    same = subst (λ (r : Regex). Names new t r) (sym (made_later old new op (list_of cs i) e known n)) name

    one : IsOne new op cs (i, t)
    one = (l, numbers_kept old new (list_of cs i) e n, same)
