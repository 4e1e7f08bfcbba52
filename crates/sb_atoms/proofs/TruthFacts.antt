-- The truth of a term that asks something of one constant's word, by the regex of what it asks for; of a membership of
-- a String term, and of an equality with a word, by what is left of the regex behind the pieces; truths of terms by
-- their numbers.
use Rattle.std.proofs.Common.{◌≡◌, ℕ, ◌+◌, ◌<◌, ◌≤◌, Bool, List, [], ◌∷◌, ◌++◌, length, take, get_or, map, slice_get, Option, Some, None, Result, refl, sym, ap, ap₂, ◌∙◌, subst}
use Rattle.std.specs.Prelude.{unwrap_or, IfOk}
use Rattle.std.proofs.Math.Bool.{and-true}
use Rattle.std.proofs.lemmas.List.{append-nil, take_all, take_more}
use Rattle.std.proofs.lemmas.Grind.{flat_map-append}
use Rattle.sb_facts.proofs.CallerLemmas.{all_append, ok_more}
use Rattle.sb_word.specs.Words.{is_character, IsWord}
use Rattle.sb_lang.specs.RegLan.{RegLan}
use Rattle.sb_lang.specs.Membership.{in_re}
use Rattle.sb_lang.specs.Regex.{Regex}
use Rattle.sb_lang.specs.Derivative.{nullable, nd, nd_along}
use Rattle.sb_lang.specs.DerivativeLaws.{NullableHasEmptyWord, DerivativeAlongHasRests}
use Rattle.sb_lang.specs.Language.{language}
use Rattle.sb_lang.specs.Normal.{normal}
use Rattle.sb_lang.specs.NormalLaws.{NormalHasTermsWords}
use Rattle.sb_regex.specs.Numbered.{regex_at, Names}
use Rattle.sb_regex.proofs.CallerLemmas.{names_at, names_from}
use Rattle.sb_meaning.specs.Terms.{Term, text, constant, word}
use Rattle.sb_meaning.specs.Terms as symbol
use Rattle.sb_meaning.specs.Values.{Valuation, Text, value_in}
use Rattle.sb_meaning.specs.Truth.{means_word, means_reglan, truth_in, all_true, applied, meaning_of_value, meaning_of, holds}
use Rattle.sb_script.specs.Brought.{asked, membership_of}
use Rattle.sb_script.specs.Pieces.{Piece, single_pieces}
use Rattle.sb_script.proofs.CallerLemmas.{of_word, asked_holds}
use Rattle.sb_term.specs.Numbered.{term_at, terms_at}
use Rattle.sb_problem.specs.Normals.{IsRegexOf}
use Rattle.sb_problem.specs.Patterns.{literal_of}
use Rattle.sb_problem.specs.Words.{letters_of}
use Rattle.sb_problem.proofs.CallerLemmas.{text_means}
use Rattle.sb_fragment.specs.Memberships as member
use Rattle.sb_fragment.specs.Memberships.{equality}
use Rattle.sb_atoms.specs.Given.{GivesValues}
use Rattle.sb_atoms.specs.Truths.{AllOf, word_at, piece_word, joined_word, IsIn, IsBehind, IsWithin, IsTruthUnder, IsTruthOf, AreEqualUnder}
use Rattle.sb_atoms.proofs.GivenValues.{asked_value}
use Rattle.sb_atoms.proofs.PieceFacts.{single_mean}

-- a membership is true where the constant's word is in the regular expression
membership_holds : (v : Valuation) (serial : ℕ) (R : Term) (reglan : RegLan) (w : List ℕ)
    → meaning_of v R ≡ means_reglan reglan → value_in v serial text ≡ Text w
    → holds (membership_of serial R) v ≡ in_re reglan w
membership_holds v serial R reglan w means value = rw (means, value) (and-true (in_re reglan w))

-- what the regex of a regular expression has are its words
in_language : NormalHasTermsWords → (rs : List Regex) (R : Term) (id : ℕ) (r : IsRegexOf rs R id) (w : List ℕ)
    → IsWord w → language (regex_at rs id) w ≡ in_re r.reglan w
in_language law rs R id r w written =
    ap (λ x. language x w) (names_at rs id (normal r.reglan) r.names) ∙ law r.reglan w written

truth_of_word : NormalHasTermsWords → (rs : List Regex) (t : Term) (serial id : ℕ) (R : Term)
    → asked t ≡ Some (serial, R) → IsRegexOf rs R id → (v : Valuation) (w : List ℕ) → IsWord w
    → value_in v serial text ≡ Text w → language (regex_at rs id) w ≡ holds t v
truth_of_word law rs t serial id R h r v w written value =
    in_language law rs R id r w written
    ∙ sym (membership_holds v serial R r.reglan w (r.means v) value)
    ∙ sym (asked_holds t serial R h v)

-- by the word at the constant's serial
pub truth_found : NormalHasTermsWords → (rs : List Regex) (serial id : ℕ) (ws : List (List ℕ)) (t R : Term)
    (truth : Bool) → asked t ≡ Some (serial, R) → IsRegexOf rs R id
    → IsIn (word_at ws serial) (regex_at rs id) truth → IsTruthUnder ws t truth
truth_found law rs serial id ws t R truth asks r is = λ v bs gives.
    is.1
    ∙ truth_of_word law rs t serial id R asks r v (word_at ws serial) is.0 (asked_value ws bs v t serial R asks gives)

-- Whether the word of a constant is in a language.

pub there_is : (ws : List (List ℕ)) (serial : ℕ) (w : List ℕ) → slice_get ws serial ≡ Some w
    → w ≡ word_at ws serial
there_is ws serial w at = sym (ap (λ (o : Option (List ℕ)). unwrap_or o []) at)

pub missing_is : (ws : List (List ℕ)) (serial : ℕ) → slice_get ws serial ≡ None → [] ≡ word_at ws serial
missing_is ws serial at = sym (ap (λ (o : Option (List ℕ)). unwrap_or o []) at)

pub matched_there : {E : Type 0} (r : Regex) (w u : List ℕ) → IsWord w → w ≡ u → (result : Result Bool E)
    → IfOk result (λ b. b ≡ language r w) → IfOk result (IsIn u r)
matched_there r w u written same result ok =
    ok_more (λ b. b ≡ language r w) (IsIn u r) result
    (λ b e. (subst IsWord same written, e ∙ ap (language r) same)) ok

pub matched_missing : NullableHasEmptyWord → (r : Regex) (u : List ℕ) (truth : Bool) → [] ≡ u → truth ≡ nullable r
    → IsIn u r truth
matched_missing law r u truth same e = (subst IsWord same refl, e ∙ (law r ∙ ap (language r) same))

-- What is left of a regex behind words.

pub behind_word : {E : Type 0} (rs : List Regex) (r : Regex) (w u : List ℕ) → IsWord w → w ≡ u
    → (result : Result ℕ E) → IfOk result (λ id. Names rs id (nd_along r w)) → IfOk result (IsBehind rs r u)
behind_word rs r w u written same result ok =
    ok_more (λ id. Names rs id (nd_along r w)) (IsBehind rs r u) result
    (λ id h. subst (λ x. IsBehind rs r x id) same (written, h)) ok

behind_none : (rs : List Regex) (id : ℕ) → id < length rs → IsBehind rs (regex_at rs id) [] id
unfolding nd_along
behind_none rs id known = (refl, names_from rs id (regex_at rs id) known refl)

pub behind_missing : (rs : List Regex) (id : ℕ) (u : List ℕ) → id < length rs → [] ≡ u
    → IsBehind rs (regex_at rs id) u id
behind_missing rs id u known same =
    subst (λ x. IsBehind rs (regex_at rs id) x id) same (behind_none rs id known)

along_both : (r : Regex) (u w : List ℕ) → nd_along r (u ++ w) ≡ nd_along (nd_along r u) w
unfolding nd_along
along_both r [] w = refl
along_both r (c ∷ u) w = along_both (nd r c) u w

words_both : (u w : List ℕ) → IsWord u → IsWord w → IsWord (u ++ w)
words_both u w h k = all_append is_character u w h k

-- one piece more
pub behind_more : (rs ss : List Regex) (r : Regex) (ws : List (List ℕ)) (ps : List Piece) (i : ℕ) (p : Piece)
    (id next : ℕ) → i < length ps → p ≡ get_or ps i p → IsBehind rs r (joined_word ws (take i ps)) id
    → IsBehind ss (regex_at rs id) (piece_word ws p) next → IsBehind ss r (joined_word ws (take (i + 1) ps)) next
behind_more rs ss r ws ps i p id next within at before more =
    let u = joined_word ws (take i ps) in
    let w = piece_word ws p in
    let whole : u ++ w ≡ joined_word ws (take (i + 1) ps) =
    sym (ap (joined_word ws) (take_more ps i p within ∙ ap (λ q. take i ps ++ q ∷ []) (sym at))
    ∙ flat_map-append (piece_word ws) (take i ps) (p ∷ [])
    ∙ ap (λ x. u ++ x) (append-nil w)) in
    subst (λ x. IsBehind ss r x next) whole (
      words_both u w before.0 more.0,
      subst (Names ss next)
          (ap (λ s. nd_along s w) (names_at rs id (nd_along r u) before.1) ∙ sym (along_both r u w)) more.1,
    )

pub behind_start : (rs : List Regex) (ws : List (List ℕ)) (ps : List Piece) (id : ℕ) → id < length rs
    → IsBehind rs (regex_at rs id) (joined_word ws (take 0 ps)) id
behind_start rs ws ps id known = behind_none rs id known

pub behind_all : (rs : List Regex) (r : Regex) (ws : List (List ℕ)) (ps : List Piece) (i id : ℕ) → length ps ≤ i
    → IsBehind rs r (joined_word ws (take i ps)) id → IsBehind rs r (joined_word ws ps) id
behind_all rs r ws ps i id done h = subst (λ qs. IsBehind rs r (joined_word ws qs) id) (take_all i ps done) h

-- Whether the word of a String term is in a language.

pub constant_within : (ws : List (List ℕ)) (t : Term) (serial : ℕ) (r : Regex) (truth : Bool)
    → t ≡ constant serial text → IsIn (word_at ws serial) r truth → IsWithin ws t r truth
constant_within ws t serial r truth is h = λ v bs gives. record {
  letters = word_at ws serial;
  means = ap (meaning_of v) is ∙ ap meaning_of_value (subst (GivesValues ws bs v) is gives);
  is = h;
}

pub parts_within : DerivativeAlongHasRests → NullableHasEmptyWord → (rs : List Regex) (r : Regex)
    (ws : List (List ℕ)) (t : Term) (ps : List Piece) (rest : ℕ) (truth : Bool) → single_pieces t ≡ Some ps
    → IsBehind rs r (joined_word ws ps) rest → truth ≡ nullable (regex_at rs rest) → IsWithin ws t r truth
parts_within along law rs r ws t ps rest truth single behind e = λ v bs gives.
    let w = joined_word ws ps in
    record {
      letters = w;
      means = single_mean ws bs v t ps gives single;
      is = (
        behind.0,
        e ∙ (ap nullable (names_at rs rest (nd_along r w) behind.1)
            ∙ (law (nd_along r w) ∙ (along r w [] ∙ ap (language r) (append-nil w)))),
      );
    }

-- Memberships.

pub member_true : NormalHasTermsWords → (rs : List Regex) (t u R : Term) (id : ℕ) (ws : List (List ℕ))
    (truth : Bool) → t ≡ member.in_re u R → IsRegexOf rs R id → IsWithin ws u (regex_at rs id) truth
    → IsTruthUnder ws t truth
member_true law rs t u R id ws truth is r within = λ v bs gives.
    let m = within v bs (subst (GivesValues ws bs v) is gives).0 in
    m.is.1
    ∙ (in_language law rs R id r m.letters m.is.0
    ∙ sym (ap (λ s. holds s v) is
    ∙ (ap₂ (λ x y. all_true (truth_in (applied symbol.str_in_re (x ∷ y ∷ [])))) m.means (r.means v)
    ∙ and-true (in_re r.reglan m.letters))))

-- Equalities with a word.

-- the first word is what the second one asks for, by its regular expression
abbrev asks_for : List ℕ → List ℕ → Bool
asks_for u w =
    all_true (truth_in (applied symbol.str_in_re (means_word u ∷ applied symbol.str_to_re (means_word w ∷ []) ∷ [])))

equal_to : (u w : List ℕ)
    → all_true (truth_in (applied symbol.core_equal (means_word u ∷ means_word w ∷ []))) ≡ asks_for u w
equal_to u w = asked_holds (equality (constant 0 text) (word w)) 0 (of_word w) refl ((0, Text u) ∷ [])

equal_from : (u w : List ℕ)
    → all_true (truth_in (applied symbol.core_equal (means_word w ∷ means_word u ∷ []))) ≡ asks_for u w
equal_from u w = asked_holds (equality (word w) (constant 0 text)) 0 (of_word w) refl ((0, Text u) ∷ [])

pub equal_true : NormalHasTermsWords → (rs : List Regex) (t g : Term) (id : ℕ) (ws : List (List ℕ)) (truth : Bool)
    → IsRegexOf rs (literal_of g) id → IsWithin ws t (regex_at rs id) truth → AreEqualUnder ws t g truth
equal_true law rs t g id ws truth r within = λ v bs gives.
    let m = within v bs gives in
    let w = letters_of g in
    let mean = text_means v g r.kind in
    let regex : applied symbol.str_to_re (means_word w ∷ []) ≡ means_reglan r.reglan =
    sym (ap (λ x. applied symbol.str_to_re (x ∷ [])) mean) ∙ r.means v in
    let asks : truth ≡ asks_for m.letters w =
    m.is.1
    ∙ (in_language law rs (literal_of g) id r m.letters m.is.0
    ∙ sym (ap (λ x. all_true (truth_in (applied symbol.str_in_re (means_word m.letters ∷ x ∷ [])))) regex
    ∙ and-true (in_re r.reglan m.letters))) in (
      asks
          ∙ sym (ap₂ (λ x y. all_true (truth_in (applied symbol.core_equal (x ∷ y ∷ [])))) m.means mean
          ∙ equal_to m.letters w),
      asks
          ∙ sym (ap₂ (λ x y. all_true (truth_in (applied symbol.core_equal (y ∷ x ∷ [])))) m.means mean
          ∙ equal_from m.letters w),
    )

-- where what is known of each is its truth
pub truths_are : (ws : List (List ℕ)) (bs : List Bool) (v : Valuation) (ts : List Term) (f : ℕ → Bool) (is : List ℕ)
    → AllOf (λ i. IsTruthOf ws bs (term_at ts i) (f i)) is → AllOf (GivesValues ws bs v) (terms_at ts is)
    → map f is ≡ map (λ t. holds t v) (terms_at ts is)
truths_are ws bs v ts f [] h gives = refl
truths_are ws bs v ts f (i ∷ is) h gives =
    ap₂ (λ b cs. b ∷ cs) (h.0 v gives.0) (truths_are ws bs v ts f is h.1 gives.1)
