-- Memberships of several pieces: what a regex leads to along the words of their pieces.
use Rattle.sb_theory.proofs.Words.{[], ◌++◌, ◌+◌, ◌<◌, ◌∙◌, ◌∷◌, ◌≡◌, ◌≤◌, Bool, List, Option, ap, arith, false≢true, get_or, length, map, not, refl, subst, suc, sym, take, true, zero, ℕ, and_from, and_parts, append-nil, beq, false, if◌then◌else◌, language, map-append, regex_at, take_all, take_more, word_piece, constant_piece, Regex, nat_tests, eq-eqb, eqb-true, false_from_ne_true, eqb, inl, inr, ◌||◌, AllPass-from_list_all, AtomOver, Lit, are_atoms, is_atom}
use Rattle.std.proofs.lemmas.Bool.{ltb-true}
use Rattle.std.proofs.lemmas.Grind.{flat_map-append}
use Rattle.std.specs.List.{IsDistinct, list_any}
use Rattle.std.proofs.lemmas.List.Elements.{All-from_recursion}
use Rattle.indexmap.specs.IndexSet.{insert_key}
use Rattle.sb_word.specs.Words.{are_characters, is_character}
use Rattle.sb_lang.specs.Derivative.{nd, nd_along, nullable}
use Rattle.sb_lang.specs.DerivativeLaws.{DerivativeAlongHasRests, NullableHasEmptyWord}
use Rattle.sb_regex.specs.Numbered as regex
use Rattle.sb_regex.proofs.CallerLemmas.{names_at, names_from}
use Rattle.sb_script.specs.Pieces.{Piece}
use Rattle.sb_rulebook.specs.Atoms.{are_pieces}
use Rattle.sb_proof.specs.Lines.{piece_in}
use Rattle.sb_proof.specs.declared.atom.Piece.{Piece as Part}
use Rattle.sb_theory.specs.Memberships.{joined_word, piece_word}
use Rattle.sb_theory.specs.Wanted.{IsWithAtom}

-- Each piece is well formed by itself, where all are.

formed_front : (p : Piece) (ps : List Piece) → are_pieces (p ∷ ps) ≡ true
    → (are_pieces (p ∷ []) ≡ true) × (are_pieces ps ≡ true)
formed_front (constant_piece x) ps h = (refl, h)
formed_front (word_piece []) ps h = absurd (false≢true h)
formed_front (word_piece (c ∷ w)) [] h = (h, refl)
formed_front (word_piece (c ∷ w)) (constant_piece x ∷ ps) h =
    let both = and_parts (are_characters (c ∷ w)) (are_pieces (constant_piece x ∷ ps)) h in
    (and_from (are_characters (c ∷ w)) true both.0 refl, both.1)
formed_front (word_piece (c ∷ w)) (word_piece v ∷ ps) h = absurd (false≢true h)

pub piece_formed : (ps : List Part) (i : ℕ) (q : Part) → i < length ps → q ≡ get_or ps i q
    → are_pieces (map piece_in ps) ≡ true → are_pieces (piece_in q ∷ []) ≡ true
piece_formed [] i q l at h = absurd (omega (arith, l))
piece_formed (p ∷ ps) zero q l at h =
    subst (λ (x : Part). are_pieces (piece_in x ∷ []) ≡ true) (sym at)
    (formed_front (piece_in p) (map piece_in ps) h).0
piece_formed (p ∷ ps) (suc i) q l at h =
    piece_formed ps i q (omega (arith, l)) at (formed_front (piece_in p) (map piece_in ps) h).1

-- the characters of one that is a word
pub word_formed : (w : List ℕ) → are_pieces (word_piece w ∷ []) ≡ true → are_characters w ≡ true
word_formed [] h = absurd (false≢true h)
word_formed (c ∷ w) h = (and_parts (are_characters (c ∷ w)) true h).0

pub character_below : (codes : List ℕ) (i : ℕ) → are_characters codes ≡ true → i < length codes
    → get_or codes i 0 ≤ 0x2ffff
character_below [] i w l = absurd (omega (arith, l))
character_below (c ∷ cs) zero w l =
    let h = (and_parts (is_character c) (are_characters cs) w).0 in grind (arith, nat_tests, h)
character_below (c ∷ cs) (suc i) w l =
    character_below cs i (and_parts (is_character c) (are_characters cs) w).1 (omega (arith, l))

-- the atom of one of some literals
pub known_at : (atoms : List (AtomOver ℕ)) (ls : List Lit) (i : ℕ) (d : Lit) → are_atoms atoms ls ≡ true
    → i < length ls → (get_or ls i d).atom < length atoms
known_at atoms ls i d known within =
    ltb-true (get_or ls i d).atom (length atoms)
    (AllPass-from_list_all (λ l. is_atom atoms l.atom) ls known i d within)

-- Along words, one behind the other.

along_both : (r : Regex) (u w : List ℕ) → nd_along r (u ++ w) ≡ nd_along (nd_along r u) w
unfolding nd_along
along_both r [] w = refl
along_both r (c ∷ u) w = along_both (nd r c) u w

along_one : (r : Regex) (c : ℕ) → nd r c ≡ nd_along r (c ∷ [])
unfolding nd_along
along_one r c = refl

pub along_none : (rs : List Regex) (id : ℕ) → id < length rs → regex.Names rs id (nd_along (regex_at rs id) [])
unfolding nd_along
along_none rs id known = names_from rs id (regex_at rs id) known refl

pub along_missing : (rs : List Regex) (id : ℕ) (w : List ℕ) → id < length rs → w ≡ []
    → regex.Names rs id (nd_along (regex_at rs id) w)
along_missing rs id w known none =
    subst (λ (u : List ℕ). regex.Names rs id (nd_along (regex_at rs id) u)) (sym none) (along_none rs id known)

along_more : (rs ss : List Regex) (r : Regex) (u w : List ℕ) (id next : ℕ) → regex.Names rs id (nd_along r u)
    → regex.Names ss next (nd_along (regex_at rs id) w) → regex.Names ss next (nd_along r (u ++ w))
along_more rs ss r u w id next before more =
    subst (regex.Names ss next)
    (ap (λ s. nd_along s w) (names_at rs id (nd_along r u) before) ∙ sym (along_both r u w)) more

-- one character more
pub character_more : (rs ss : List Regex) (r : Regex) (codes : List ℕ) (i id next c : ℕ) → i < length codes
    → c ≡ get_or codes i 0 → regex.Names rs id (nd_along r (take i codes))
    → regex.Names ss next (nd (regex_at rs id) c) → regex.Names ss next (nd_along r (take (i + 1) codes))
character_more rs ss r codes i id next c within at before more =
    subst (λ (u : List ℕ). regex.Names ss next (nd_along r u))
    (sym (take_more codes i 0 within ∙ ap (λ n. take i codes ++ n ∷ []) (sym at)))
    (along_more rs ss r (take i codes) (c ∷ []) id next before
    (subst (regex.Names ss next) (along_one (regex_at rs id) c) more))

pub characters_all : (rs : List Regex) (r : Regex) (codes : List ℕ) (i id : ℕ) → length codes ≤ i
    → regex.Names rs id (nd_along r (take i codes)) → regex.Names rs id (nd_along r codes)
characters_all rs r codes i id done h =
    subst (λ (u : List ℕ). regex.Names rs id (nd_along r u)) (take_all i codes done) h

-- one piece more
pub piece_more : (rs ss : List Regex) (words : List (Option (List ℕ))) (r : Regex) (ps : List Part) (i : ℕ) (q : Part)
    (id next : ℕ) → i < length ps → q ≡ get_or ps i q
    → regex.Names rs id (nd_along r (joined_word words (map piece_in (take i ps))))
    → regex.Names ss next (nd_along (regex_at rs id) (piece_word words (piece_in q)))
    → regex.Names ss next (nd_along r (joined_word words (map piece_in (take (i + 1) ps))))
piece_more rs ss words r ps i q id next within at before more =
    let front = joined_word words (map piece_in (take i ps)) in
    let w = piece_word words (piece_in q) in
    let whole : joined_word words (map piece_in (take (i + 1) ps)) ≡ front ++ w =
    ap (λ (qs : List Part). joined_word words (map piece_in qs))
    (take_more ps i q within ∙ ap (λ (p : Part). take i ps ++ p ∷ []) (sym at))
    ∙ ap (joined_word words) (map-append piece_in (take i ps) (q ∷ []))
    ∙ flat_map-append (piece_word words) (map piece_in (take i ps)) (piece_in q ∷ [])
    ∙ ap (λ (v : List ℕ). front ++ v) (append-nil w) in
    subst (λ (u : List ℕ). regex.Names ss next (nd_along r u)) (sym whole)
    (along_more rs ss r front w id next before more)

-- The joined word is in the language where what is left behind it has the empty word.
pub joined_in : DerivativeAlongHasRests → NullableHasEmptyWord → (rs : List Regex) (words : List (Option (List ℕ)))
    (r : Regex) (ps : List Part) (i id : ℕ) (b : Bool) → length ps ≤ i
    → regex.Names rs id (nd_along r (joined_word words (map piece_in (take i ps)))) → b ≡ nullable (regex_at rs id)
    → b ≡ language r (joined_word words (map piece_in ps))
joined_in rests empty rs words r ps i id b done h is =
    let w = joined_word words (map piece_in ps) in
    is ∙ ap nullable (names_at rs id (nd_along r (joined_word words (map piece_in (take i ps)))) h)
    ∙ ap (λ (qs : List Part). nullable (nd_along r (joined_word words (map piece_in qs)))) (take_all i ps done)
    ∙ empty (nd_along r w) ∙ rests r w [] ∙ ap (language r) (append-nil w)

-- A literal of a membership as its sign has it.
pub sign_of : (s b : Bool) → beq b s ≡ (if s then b else not b)
sign_of true true = refl
sign_of true false = refl
sign_of false true = refl
sign_of false false = refl

-- Atoms that are copied each once.

-- none in front of a place is equal to the one there
pub new_at : (ks : List ℕ) (i d : ℕ) → IsDistinct eqb ks → i < length ks
    → list_any (eqb (get_or ks i d)) (take i ks) ≡ false
unfolding IsDistinct
new_at [] i d once l = absurd (omega (arith, l))
new_at (k ∷ ks) zero d once l = refl
new_at (k ∷ ks) (suc i) d once l =
    let y = get_or ks i d in
    let apart : eqb k y ≡ false = All-from_recursion (λ z. eqb k z ≡ false) ks once.0 i d (omega (arith, l)) in
    ap (λ b. b || list_any (eqb y) (take i ks))
    (false_from_ne_true (eqb y k) (λ same. false≢true (sym apart ∙ eq-eqb k y (sym (eqb-true y k same)))))
    ∙ new_at ks i d once.1 (omega (arith, l))

pub copied_more : (ks now new : List ℕ) (i a d : ℕ) → IsDistinct eqb ks → i < length ks → a ≡ get_or ks i d
    → now ≡ take i ks → new ≡ insert_key eqb now a → new ≡ take (i + 1) ks
copied_more ks now new i a d once within at is made =
    made ∙ ap (λ (ns : List ℕ). insert_key eqb ns a) is
    ∙ ap (λ b. if b then take i ks else take i ks ++ a ∷ [])
    (ap (λ n. list_any (eqb n) (take i ks)) at ∙ new_at ks i d once within)
    ∙ ap (λ n. take i ks ++ n ∷ []) at ∙ sym (take_more ks i d within)

-- one atom is added, unless it is there
pub added_atom : (old new : List ℕ) (a : ℕ) → new ≡ insert_key eqb old a → IsWithAtom old new a
added_atom old new a is = step (list_any (eqb a) old) refl
  where
    step : (b : Bool) → list_any (eqb a) old ≡ b → IsWithAtom old new a
    step true e = inl (is ∙ ap (λ b. if b then old else old ++ a ∷ []) e, e)
    step false e = inr (is ∙ ap (λ b. if b then old else old ++ a ∷ []) e)
