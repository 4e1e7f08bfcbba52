-- Where a constant's word leads: what the literals of paths ask for, and which clauses no word makes false.
use Rattle.std.specs.Ordering.{is_eq}
use Rattle.std.specs.Cmp.{Equal-is}
use Rattle.sb_lang.specs.Order.{regex_cmp}
use Rattle.std.proofs.lemmas.List.Sums.{AllPass-from_list_all, list_all-from_AllPass}
use Rattle.sb_regex.specs.Numbered as regex
use Rattle.sb_split.proofs.Words.{IsMember, IsWithPaths, Piece, append-nil, append_assoc, take, take_more, ◌+◌, Bool, List, [], ap, ap₂, false, get_or, if◌then◌else◌, length, map, not, refl, subst, sym, true, ℕ, ◌&&◌, ◌++◌, ◌<◌, ◌∙◌, ◌∷◌, ◌≡◌, ◌≢◌, Adds, All, All-append, All-cons, All-contains, All-head, All-map, All-nil, All-tail, AllNumbers, AreAbout, AreClashing, ArePaths, Ascend, AtomOver, Contains, Covers, Extends, HaveRegexesBelow, IsAbout, IsCover, IsDenial, IsPair, IsPath, IsWord, Lit, MkandKeepsLanguage, MknotKeepsLanguage, MkpathKeepsLanguage, Names, OrderTellsApart, Regex, Sort, and_parts, asked_by, asked_by_all, at_kept, ats_kept, bool_atom, constant_piece, false_from_ne_true, false≢true, get_or_append_left, get_or_from_slice_get, in_all, in_atom, in_order, language, list_all, list_all-append, list_all-map, mkand, mknot, mkpath, names_at, names_kept, nd_along, negation, negation_twice, number_in, regex_at, regex_below, regex_eq, regexes_at, slice_get_within}
use Rattle.sb_split.proofs.AddedFacts.{names_more}
use Rattle.sb_split.proofs.OrderFacts.{all_kept, all_ordered, ascend_ordered}

-- A table and an arena that grow.

pub path_later : (given : List Sort → Bool) (rs ss : List Regex) (old new : List (AtomOver ℕ)) (x r q : ℕ) (l : Lit)
    → Adds given rs ss old new → r < length rs → q < length rs → IsPath rs old x r q l → IsPath ss new x r q l
path_later given rs ss old new x r q l e from to h = record {
  number = h.number;
  names = names_more old new l.atom (in_atom (constant_piece x ∷ []) h.number) e.atoms h.names;
  path = subst (regex.Names ss h.number) (sym (ap₂ mkpath (at_kept rs ss r e.arena from) (at_kept rs ss q e.arena to)))
      (names_kept rs ss h.number (mkpath (regex_at rs r) (regex_at rs q)) e.arena h.path);
  positive = h.positive;
}

pub about_later : (old new : List (AtomOver ℕ)) (x : ℕ) (ls : List Lit) → Extends old new → AreAbout old x ls
    → AreAbout new x ls
about_later old new x ls e h = λ k d low.
    let one = h k d low in record { regex = one.regex; names = names_more old new _ _ e one.names }

asked_later : (rs ss : List Regex) (old new : List (AtomOver ℕ)) (x : ℕ) (l : Lit) → regex.Extends rs ss
    → Extends old new
    → HaveRegexesBelow (length rs) old → IsAbout old x l → asked_by ss new l ≡ asked_by rs old l
asked_later rs ss old new x l e more below about =
    ap (λ n. if l.positive then regex_at ss n else mknot (regex_at ss n)) (ap number_in
    (ap (λ atoms. get_or atoms l.atom (bool_atom 0)) more.is
    ∙ get_or_append_left old more.more (bool_atom 0) l.atom (slice_get_within old l.atom _ about.names)))
    ∙ ap (λ (s : Regex). if l.positive then s else mknot s)
    (at_kept rs ss (number_in (get_or old l.atom (bool_atom 0))) e (regex_below (length rs) old x l below about))

all_later : (rs ss : List Regex) (old new : List (AtomOver ℕ)) (x : ℕ) (ls : List Lit) → regex.Extends rs ss
    → Extends old new → HaveRegexesBelow (length rs) old → AreAbout old x ls
    → map (asked_by ss new) ls ≡ map (asked_by rs old) ls
all_later rs ss old new x [] e more below about = refl
all_later rs ss old new x (l ∷ ls) e more below about =
    ap₂ (λ s rest. s ∷ rest) (asked_later rs ss old new x l e more below (All-head (IsAbout old x) l ls about))
    (all_later rs ss old new x ls e more below (All-tail (IsAbout old x) l ls about))

pub covers_later : (rs ss : List Regex) (old new : List (AtomOver ℕ)) (x r : ℕ) (guards : List Lit) (list : List ℕ)
    → regex.Extends rs ss → Extends old new → HaveRegexesBelow (length rs) old → AreAbout old x guards → r < length rs
    → AllNumbers rs list → Covers rs old r guards list → Covers ss new r guards list
covers_later rs ss old new x r guards list e more below about low known h = λ w word is.
    subst (λ (s : Regex). Contains (regexes_at ss list) (nd_along s w)) (sym (at_kept rs ss r e low))
    (subst (λ (all : List Regex). Contains all (nd_along (regex_at rs r) w)) (sym (ats_kept rs ss list e known))
    (h w word (ap (λ all. language (mkand all) w) (sym (all_later rs ss old new x guards e more below about)) ∙ is)))

-- What the literal of a path asks for.

asked_signed : (rs : List Regex) (atoms : List (AtomOver ℕ)) (x r q : ℕ) (l : Lit) (b : Bool)
    → IsPath rs atoms x r q l → asked_by rs atoms (record { atom = l.atom; positive = b })
    ≡ (if b then mkpath (regex_at rs r) (regex_at rs q) else mknot (mkpath (regex_at rs r) (regex_at rs q)))
asked_signed rs atoms x r q l b h =
    ap (λ (s : Regex). if b then s else mknot s)
    (ap (λ n. regex_at rs n) (ap number_in (get_or_from_slice_get atoms l.atom _ (bool_atom 0) h.names))
    ∙ names_at rs h.number (mkpath (regex_at rs r) (regex_at rs q)) h.path)

same_sign : (l : Lit) → l.positive ≡ true → negation l ≡ record { atom = l.atom; positive = false }
same_sign l h = ap (λ b. record { atom = l.atom; positive = not b }) h

asked_negated : (rs : List Regex) (atoms : List (AtomOver ℕ)) (x r q : ℕ) (l : Lit) → IsPath rs atoms x r q l
    → asked_by rs atoms (negation l) ≡ mknot (mkpath (regex_at rs r) (regex_at rs q))
asked_negated rs atoms x r q l h =
    ap (asked_by rs atoms) (same_sign l h.positive) ∙ asked_signed rs atoms x r q l false h

asked_twice : (rs : List Regex) (atoms : List (AtomOver ℕ)) (x r q : ℕ) (l : Lit) → IsPath rs atoms x r q l
    → asked_by rs atoms (negation (negation l)) ≡ mkpath (regex_at rs r) (regex_at rs q)
asked_twice rs atoms x r q l h =
    ap (asked_by rs atoms) (ap negation (same_sign l h.positive)) ∙ asked_signed rs atoms x r q l true h

leads : MkpathKeepsLanguage → (a b : Regex) (w : List ℕ) → language (mkpath a b) w ≡ regex_eq (nd_along a w) b
unfolding language
leads keeps a b w = keeps a b w

leads_not : MknotKeepsLanguage → MkpathKeepsLanguage → (a b : Regex) (w : List ℕ)
    → language (mknot (mkpath a b)) w ≡ not (regex_eq (nd_along a w) b)
unfolding language
leads_not denies keeps a b w = denies (mkpath a b) w ∙ ap not (leads keeps a b w)

same_regex : OrderTellsApart → (a b : Regex) → regex_eq a b ≡ true → a ≡ b
same_regex apart a b h = (apart a b).0 ((Equal-is (regex_cmp a b)).0 h)

equal_regex : OrderTellsApart → (a b : Regex) → a ≡ b → regex_eq a b ≡ true
equal_regex apart a b same = ap is_eq ((apart a b).1 same)

never : (a : Bool) → a ≡ true → not a ≡ true → ⊥
never true p q = false≢true q
never false p q = false≢true p

-- What holds of the clause's negations.

abbrev made_by : List Regex → List (AtomOver ℕ) → List ℕ → Lit → Bool
made_by rs atoms w l = language (asked_by rs atoms l) w

all_order : (p : Lit → Bool) (ls : List Lit) → list_all p (in_order ls) ≡ true → list_all p ls ≡ true
all_order p ls h =
    list_all-from_AllPass p ls
    (all_kept (λ l. p l ≡ true) ls (AllPass-from_list_all p (in_order ls) h))

all_negated : MkandKeepsLanguage → (rs : List Regex) (atoms : List (AtomOver ℕ)) (ls clause : List Lit) (w : List ℕ)
    → clause ≡ in_order ls → language (asked_by_all rs atoms (map negation clause)) w ≡ true
    → list_all (λ l. made_by rs atoms w (negation l)) ls ≡ true
all_negated keeps rs atoms ls clause w is h =
    all_order (λ l. made_by rs atoms w (negation l)) ls
    (ap (list_all (λ l. made_by rs atoms w (negation l))) (sym is)
    ∙ sym (list_all-map (made_by rs atoms w) negation clause)
    ∙ sym (in_all keeps rs atoms (map negation clause) w) ∙ h)

twice : (p : Lit → Bool) (ls : List Lit) → list_all (λ l. p (negation l)) (map negation ls) ≡ list_all p ls
twice p [] = refl
twice p (l ∷ ls) = ap₂ (λ a b. a && b) (ap p (negation_twice l)) (twice p ls)

-- none of the regexes of the list is led to
all_missed : OrderTellsApart → MknotKeepsLanguage → MkpathKeepsLanguage → (rs : List Regex) (atoms : List (AtomOver ℕ))
    (x r : ℕ) (list : List ℕ) (paths : List Lit) (w : List ℕ) → ArePaths rs atoms x r list paths
    → list_all (λ l. made_by rs atoms w (negation l)) paths ≡ true
    → All (λ s. nd_along (regex_at rs r) w ≢ s) (regexes_at rs list)
all_missed apart denies keeps rs atoms x r [] [] w are h = All-nil (λ s. nd_along (regex_at rs r) w ≢ s)
all_missed apart denies keeps rs atoms x r [] (l ∷ ls) w are h = absurd are
all_missed apart denies keeps rs atoms x r (q ∷ qs) [] w are h = absurd are
all_missed apart denies keeps rs atoms x r (q ∷ qs) (l ∷ ls) w are h =
    let parts = and_parts (made_by rs atoms w (negation l)) (list_all (λ m. made_by rs atoms w (negation m)) ls) h in
    let seen = sym (leads_not denies keeps (regex_at rs r) (regex_at rs q) w)
    ∙ ap (λ s. language s w) (sym (asked_negated rs atoms x r q l are.0)) ∙ parts.0 in
    All-cons (λ s. nd_along (regex_at rs r) w ≢ s) (regex_at rs q) (regexes_at rs qs)
    (λ same. never (regex_eq (nd_along (regex_at rs r) w) (regex_at rs q))
    (equal_regex apart (nd_along (regex_at rs r) w) (regex_at rs q) same) seen)
    (all_missed apart denies keeps rs atoms x r qs ls w are.1 parts.1)

-- The clauses.

never_none : MkandKeepsLanguage → (rs : List Regex) (atoms : List (AtomOver ℕ)) (clause : List Lit)
    → AreClashing rs atoms (map negation clause) → clause ≢ []
never_none keeps rs atoms clause h = λ none.
    false≢true (sym (h [] refl) ∙ ap (λ (ms : List Lit). language (asked_by_all rs atoms (map negation ms)) []) none
    ∙ in_all keeps rs atoms [] [])

denial_of : MkandKeepsLanguage → (rs : List Regex) (atoms : List (AtomOver ℕ)) (x : ℕ) (ls clause : List Lit)
    → clause ≡ in_order ls → AreAbout atoms x ls → AreClashing rs atoms (map negation clause)
    → IsDenial rs atoms x clause
denial_of keeps rs atoms x ls clause is about clash = record {
  about = subst (AreAbout atoms x) (sym is) (all_ordered (IsAbout atoms x) ls about);
  clash = clash;
  some = never_none keeps rs atoms clause clash;
  ascend = subst Ascend (sym is) (ascend_ordered ls);
}

paths_about : (rs : List Regex) (atoms : List (AtomOver ℕ)) (x r : ℕ) (list : List ℕ) (paths : List Lit)
    → ArePaths rs atoms x r list paths → AreAbout atoms x paths
paths_about rs atoms x r [] [] are = All-nil (IsAbout atoms x)
paths_about rs atoms x r [] (l ∷ ls) are = absurd are
paths_about rs atoms x r (q ∷ qs) [] are = absurd are
paths_about rs atoms x r (q ∷ qs) (l ∷ ls) are =
    All-cons (IsAbout atoms x) l ls (record { regex = are.0.number; names = are.0.names })
    (paths_about rs atoms x r qs ls are.1)

negations_about : (atoms : List (AtomOver ℕ)) (x : ℕ) (ls : List Lit) → AreAbout atoms x ls
    → AreAbout atoms x (map negation ls)
negations_about atoms x ls h =
    All-map (IsAbout atoms x) negation ls (λ k d m. let g = h k d m in record { regex = g.regex; names = g.names })

pub cover_denies : OrderTellsApart → MkandKeepsLanguage → MknotKeepsLanguage → MkpathKeepsLanguage → (rs : List Regex)
    (atoms : List (AtomOver ℕ)) (x r : ℕ) (guards : List Lit) (list : List ℕ) (clause : List Lit)
    → AreAbout atoms x guards → Covers rs atoms r guards list → IsCover rs atoms x r guards list clause
    → IsDenial rs atoms x clause
cover_denies apart keeps denies leading rs atoms x r guards list clause about covers h =
    denial_of keeps rs atoms x (map negation guards ++ h.paths) clause h.is
    (All-append (IsAbout atoms x) (map negation guards) h.paths (negations_about atoms x guards about)
    (paths_about rs atoms x r list h.paths h.are))
    (λ w word. false_from_ne_true (language (asked_by_all rs atoms (map negation clause)) w) (λ is. step w word is))
  where
    step : (w : List ℕ) → IsWord w → language (asked_by_all rs atoms (map negation clause)) w ≡ true → ⊥
    step w word is =
        let p : Lit → Bool = λ l. made_by rs atoms w (negation l) in
        let parts = and_parts (list_all p (map negation guards)) (list_all p h.paths)
        (sym (list_all-append p (map negation guards) h.paths)
        ∙ all_negated keeps rs atoms (map negation guards ++ h.paths) clause w h.is is) in
        All-contains (λ s. nd_along (regex_at rs r) w ≢ s) (regexes_at rs list) (nd_along (regex_at rs r) w)
        (all_missed apart denies leading rs atoms x r list h.paths w h.are parts.1)
        (covers w word (in_all keeps rs atoms guards w ∙ sym (twice (made_by rs atoms w) guards) ∙ parts.0)) refl

pub pair_denies : OrderTellsApart → MkandKeepsLanguage → MkpathKeepsLanguage → (rs : List Regex)
    (atoms : List (AtomOver ℕ)) (x r p q : ℕ) (clause : List Lit) → regex_at rs p ≢ regex_at rs q
    → IsPair rs atoms x r p q clause → IsDenial rs atoms x clause
pair_denies apart keeps leading rs atoms x r p q clause differ h =
    denial_of keeps rs atoms x (negation h.one ∷ negation h.other ∷ []) clause h.is
    (All-cons (IsAbout atoms x) (negation h.one) (negation h.other ∷ [])
    (record { regex = h.to_one.number; names = h.to_one.names })
    (All-cons (IsAbout atoms x) (negation h.other) [] (record { regex = h.to_other.number; names = h.to_other.names })
    (All-nil (IsAbout atoms x))))
    (λ w word. false_from_ne_true (language (asked_by_all rs atoms (map negation clause)) w) (λ is. step w is))
  where
    to : (w : List ℕ) (s : ℕ) (l : Lit) → IsPath rs atoms x r s l
        → made_by rs atoms w (negation (negation l)) ≡ true → nd_along (regex_at rs r) w ≡ regex_at rs s
    to w s l path is =
        same_regex apart (nd_along (regex_at rs r) w) (regex_at rs s)
        (sym (leads leading (regex_at rs r) (regex_at rs s) w)
        ∙ ap (λ t. language t w) (sym (asked_twice rs atoms x r s l path)) ∙ is)

    step : (w : List ℕ) → language (asked_by_all rs atoms (map negation clause)) w ≡ true → ⊥
    step w is =
        let p0 : Lit → Bool = λ l. made_by rs atoms w (negation l) in
        let all = all_negated keeps rs atoms (negation h.one ∷ negation h.other ∷ []) clause w h.is is in
        let first = and_parts (p0 (negation h.one)) (p0 (negation h.other) && true) all in
        let second = and_parts (p0 (negation h.other)) true first.1 in
        differ (sym (to w p h.one h.to_one first.0) ∙ to w q h.other h.to_other second.0)

-- Paths, one after the other.

pub paths_later : (given : List Sort → Bool) (rs ss : List Regex) (old new : List (AtomOver ℕ)) (x r : ℕ)
    (list : List ℕ)
    (paths : List Lit) → Adds given rs ss old new → r < length rs → AllNumbers rs list → ArePaths rs old x r list paths
    → ArePaths ss new x r list paths
paths_later given rs ss old new x r [] [] e from known are = tt
paths_later given rs ss old new x r [] (l ∷ ls) e from known are = absurd are
paths_later given rs ss old new x r (q ∷ qs) [] e from known are = absurd are
paths_later given rs ss old new x r (q ∷ qs) (l ∷ ls) e from known are = (
  path_later given rs ss old new x r q l e from (All-head (λ n. n < length rs) q qs known) are.0,
  paths_later given rs ss old new x r qs ls e from (All-tail (λ n. n < length rs) q qs known) are.1,
)

pub paths_push : (rs : List Regex) (atoms : List (AtomOver ℕ)) (x r : ℕ) (list : List ℕ) (paths : List Lit) (q : ℕ)
    (l : Lit) → ArePaths rs atoms x r list paths → IsPath rs atoms x r q l
    → ArePaths rs atoms x r (list ++ q ∷ []) (paths ++ l ∷ [])
paths_push rs atoms x r [] [] q l are one = (one, tt)
paths_push rs atoms x r [] (m ∷ ls) q l are one = absurd are
paths_push rs atoms x r (p ∷ qs) [] q l are one = absurd are
paths_push rs atoms x r (p ∷ qs) (m ∷ ls) q l are one = (are.0, paths_push rs atoms x r qs ls q l are.1 one)

-- the literal of a path, made of that of a membership
pub path_is : (rs ss : List Regex) (atoms : List (AtomOver ℕ)) (x r q n : ℕ) (ps : List Piece) (l : Lit)
    → ps ≡ constant_piece x ∷ [] → regex.Extends rs ss → r < length rs → q < length rs
    → regex.Names ss n (mkpath (regex_at rs r) (regex_at rs q)) → IsMember atoms (in_atom ps n) l
    → IsPath ss atoms x r q l
path_is rs ss atoms x r q n ps l same e from to names member = record {
  number = n;
  names = subst (λ all. Names atoms l.atom (in_atom all n)) same member.names;
  path = subst (regex.Names ss n) (sym (ap₂ mkpath (at_kept rs ss r e from) (at_kept rs ss q e to))) names;
  positive = member.positive;
}

pub with_none : (rs : List Regex) (atoms : List (AtomOver ℕ)) (x r : ℕ) (literals : List Lit)
    → IsWithPaths rs atoms x r [] literals literals
with_none rs atoms x r literals = record { paths = []; are = tt; is = sym (append-nil literals) }

pub with_path : (given : List Sort → Bool) (rs ss : List Regex) (old new : List (AtomOver ℕ)) (x r : ℕ) (list : List ℕ)
    (i d : ℕ) (first literals more : List Lit) (l : Lit) → Adds given rs ss old new → r < length rs
    → AllNumbers rs (take i list) → i < length list → IsWithPaths rs old x r (take i list) first literals
    → IsPath ss new x r (get_or list i d) l → more ≡ literals ++ l ∷ []
    → IsWithPaths ss new x r (take (i + 1) list) first more
with_path given rs ss old new x r list i d first literals more l e from known low h path pushed = record {
  paths = h.paths ++ l ∷ [];
  are = subst (λ qs. ArePaths ss new x r qs (h.paths ++ l ∷ [])) (sym (take_more list i d low))
      (paths_push ss new x r (take i list) h.paths (get_or list i d) l
      (paths_later given rs ss old new x r (take i list) h.paths e from known h.are) path);
  is = pushed ∙ ap (λ ms. ms ++ l ∷ []) h.is ∙ append_assoc first h.paths (l ∷ []);
}

pub cover_is : (rs : List Regex) (atoms : List (AtomOver ℕ)) (x r : ℕ) (guards : List Lit) (list : List ℕ)
    (first literals clause : List Lit) → first ≡ map negation guards → IsWithPaths rs atoms x r list first literals
    → clause ≡ in_order literals → IsCover rs atoms x r guards list clause
cover_is rs atoms x r guards list first literals clause same h is = record {
  paths = h.paths;
  are = h.are;
  is = is ∙ ap in_order (h.is ∙ ap (λ ms. ms ++ h.paths) same);
}

pub pair_is : (given : List Sort → Bool) (rs ss : List Regex) (old new : List (AtomOver ℕ)) (x r p q : ℕ)
    (first second one other : Lit) (clause : List Lit) → Adds given rs ss old new → r < length rs → p < length rs
    → IsPath rs old x r p first → IsPath ss new x r q second → one ≡ negation first → other ≡ negation second
    → clause ≡ in_order (one ∷ other ∷ []) → IsPair ss new x r p q clause
pair_is given rs ss old new x r p q first second one other clause e from low h k denied refused is = record {
  one = first;
  other = second;
  to_one = path_later given rs ss old new x r p first e from low h;
  to_other = k;
  is = is ∙ ap₂ (λ l m. in_order (l ∷ m ∷ [])) denied refused;
}

-- regexes of two numbers differ, also in an arena that grew
pub differ_later : (rs ss : List Regex) (p q : ℕ) → regex.AreDistinct rs → regex.Extends rs ss → p < length rs
    → q < length rs → p ≢ q → regex_at ss p ≢ regex_at ss q
differ_later rs ss p q once e one other apart = λ same.
    apart (once p q one other (sym (at_kept rs ss p e one) ∙ same ∙ at_kept rs ss q e other))
