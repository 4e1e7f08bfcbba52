-- Walks along the pieces of memberships: what a step says of the words, of what is left, and of the trail.
use Rattle.std.proofs.Common.{◌≡◌, ◌≢◌, ◌⊎◌, ℕ, ◌<◌, ◌≤◌, Bool, true, false, not, if◌then◌else◌, nat_lt, List, [], ◌∷◌, ◌++◌, filter, length, get_or, slice_get, flat_map, Contains, Option, Some, None, option_map, option_and_then, refl, sym, ap, ap₂, subst, ◌∙◌, inl, inr, arith}
use Rattle.std.specs.List.{All, list_all}
use Rattle.std.proofs.lemmas.Bool.{and_from, and_parts, eq-eqb, false≢true, true≢false, lt-ltb, ltb-true, or_cases, or_left, or_right}
use Rattle.std.proofs.lemmas.List.{append-nil, length-map, take_all}
use Rattle.std.proofs.lemmas.List.Elements.{All-cons, All-contains, All-contains_itself, All-nil}
use Rattle.std.proofs.lemmas.List.Sums.{list_all-from_AllPass}
use Rattle.std.proofs.lemmas.Option.{get_or_from_slice_get, same_Some, slice_get-map, slice_get_within}
use Rattle.sb_lit.proofs.CallerLemmas.{all_among, is_same_literal-true, negation_twice}
use Rattle.sb_lit.specs.Clauses.{is_among, is_false_clause, is_false_under, is_same_literal, is_true_under, negation, value_under}
use Rattle.sb_trail.specs.Assignments.{value_of}
use Rattle.sb_lang.specs.ConstructorLaws.{MkpathKeepsLanguage}
use Rattle.sb_lang.specs.DerivativeLaws.{DerivativeAlongHasRests, NullableHasEmptyWord}
unfoldable use Rattle.sb_lang.specs.Language.{language}
use Rattle.sb_lang.specs.OrderLaws.{OrderTellsApart}
use Rattle.sb_rulebook.proofs.CallerLemmas.{regex_itself}
use Rattle.sb_rulebook.specs.Atoms.{and_atom, iff_atom, le_atom, sum_atom}
use Rattle.sb_lang.specs.Regex.{path}
use Rattle.sb_rulebook.specs.Translation.{in_order}
use Rattle.sb_sound.specs.ClauseForms.{of_sign, minus, plus}
use Rattle.sb_regex.proofs.CallerLemmas.{long_kept}
use Rattle.sb_clash.specs.Literals.{AreAbout, number_in}
use Rattle.sb_split.proofs.CallerLemmas.{set_ordered, step_is, step_known}
use Rattle.sb_split.specs.Steps.{IsConstantStep, IsEndStep, IsStepAt, IsStepOf, IsWordStep}
use Rattle.sb_split.specs.declared.stepping.Step.{Step}
use Rattle.sb_theory.specs.Fronts.{is_in, number_at}
use Rattle.sb_theory.specs.Memberships.{AreMembers, constant_of, fits_pieces, fits_subject, is_about, is_atom, is_joined, is_joined_atom, is_subject, is_true_by, is_true_of, joined_word, literals_about, row_at, subject_of, word_at}
use Rattle.sb_theory.specs.Strings.{Frame, Holds, IsWrong, Keeps, Tables}
use Rattle.sb_theory.specs.Walks.{IsBetween, IsFalseStep, IsLed, IsNoted, IsOfRest, IsOpenLead, IsWeighed, pieces_at, pieces_of}
use Rattle.sb_theory.specs.Wanted.{is_of_wanted, is_wanted, wanted_on}
use Rattle.sb_theory.specs.Wishes.{IsLeft, IsWish, Wish, expanded_in, is_there, is_within, regexes_in, tails_in, wishes, wishes_of}
use Rattle.sb_theory.specs.Words.{Assigned, Atom, AtomOver, Lit, Names, Piece, Regex, Serial, Traced, atoms_in, bool_atom, constant_piece, held, in_atom, mkpath, nd_along, over, regex_at, word_piece}
use Rattle.sb_theory.specs.declared.strings.Strings.{Strings}
use Rattle.sb_theory.specs.declared.strings.walking.Walked.{Walked}
use Rattle.sb_theory.specs.declared.strings.walking.Walked.TheVariants as walked
use Rattle.sb_facts.proofs.CallerLemmas.{all_push}
use Rattle.sb_theory.proofs.Rows.{all_about, row_passes}
use Rattle.sb_theory.proofs.Wishes.{atom_grown, left_behind, left_constant, left_wish, left_word, named_grown, named_in}

-- The truth of a literal of a membership, by the word of its pieces.

abbrev signed : Bool → Bool → Bool
signed positive b = if positive then b else not b

true_by_pieces : (rs : List Regex) (ts : List (AtomOver ℕ)) (ws : List (Option (List ℕ))) (l : Lit) (ps : List Piece)
    (n : ℕ) → Names ts l.atom (in_atom ps n)
    → is_true_by rs ts ws l ≡ signed l.positive (language (regex_at rs n) (joined_word ws ps))
true_by_pieces rs ts ws l (constant_piece z ∷ []) n names =
    ap (λ (o : Option (AtomOver ℕ)). fits_subject rs ts ws l (option_and_then constant_of o)) names
    ∙ ap (λ (a : AtomOver ℕ). signed l.positive (language (regex_at rs (number_in a)) (word_at ws z)))
    (get_or_from_slice_get ts l.atom (in_atom (constant_piece z ∷ []) n) (bool_atom 0) names)
    ∙ ap (λ (w : List ℕ). signed l.positive (language (regex_at rs n) w)) (sym (append-nil (word_at ws z)))
true_by_pieces rs ts ws l [] n names =
    ap (λ (o : Option (AtomOver ℕ)). fits_subject rs ts ws l (option_and_then constant_of o)) names
    ∙ ap (fits_pieces rs ws l.positive) names
true_by_pieces rs ts ws l (word_piece w ∷ ps) n names =
    ap (λ (o : Option (AtomOver ℕ)). fits_subject rs ts ws l (option_and_then constant_of o)) names
    ∙ ap (fits_pieces rs ws l.positive) names
true_by_pieces rs ts ws l (constant_piece z ∷ p ∷ ps) n names =
    ap (λ (o : Option (AtomOver ℕ)). fits_subject rs ts ws l (option_and_then constant_of o)) names
    ∙ ap (fits_pieces rs ws l.positive) names

-- The membership of a number, from what it is over the regexes.

record IsMemberAt (rs : List Regex) (ts : List (AtomOver ℕ)) (i : ℕ) (ps : List Piece) (r : Regex) : Type 0 where
  number : ℕ
  names : Names ts i (in_atom ps number)
  regex : regex_at rs number ≡ r

pieces_of_same : (ps qs : List Piece) (r s : Regex) → ◌≡◌ {A = Option Atom} (Some (in_atom ps r)) (Some (in_atom qs s))
    → ps ≡ qs
pieces_of_same ps qs r s h = Prim.cc (h)

regex_of_same : (ps qs : List Piece) (r s : Regex) → ◌≡◌ {A = Option Atom} (Some (in_atom ps r)) (Some (in_atom qs s))
    → r ≡ s
regex_of_same ps qs r s h = Prim.cc (h)

member_back : (rs : List Regex) (ts : List (AtomOver ℕ)) (i : ℕ) (ps : List Piece) (r : Regex)
    → slice_get (atoms_in rs ts) i ≡ Some (in_atom ps r) → IsMemberAt rs ts i ps r
member_back rs ts i ps r h = step (slice_get ts i) refl (sym (slice_get-map (over rs) ts i) ∙ h)
  where
    step : (o : Option (AtomOver ℕ)) → slice_get ts i ≡ o → option_map (over rs) o ≡ Some (in_atom ps r)
        → IsMemberAt rs ts i ps r
    step (Some (in_atom qs n)) there is = record {
      number = n;
      names = there ∙ ap (λ (us : List Piece). Some (in_atom us n)) (pieces_of_same qs ps (regex_at rs n) r is);
      regex = regex_of_same qs ps (regex_at rs n) r is;
    }
    step None there is = absurd (Prim.cc (is))
    step (Some (bool_atom k)) there is = absurd (Prim.cc (is))
    step (Some (le_atom x k)) there is = absurd (Prim.cc (is))
    step (Some (sum_atom k ss)) there is = absurd (Prim.cc (is))
    step (Some (and_atom ls)) there is = absurd (Prim.cc (is))
    step (Some (iff_atom k m)) there is = absurd (Prim.cc (is))

-- the membership of several pieces, or of none
pub record IsSeveral (ts : List (AtomOver ℕ)) (i : ℕ) : Type 0 where
  pub pieces : List Piece
  pub number : ℕ
  pub names : Names ts i (in_atom pieces number)
  pub several : is_joined_atom (in_atom pieces number) ≡ true

pub several : (ts : List (AtomOver ℕ)) (i : ℕ) → is_joined ts i ≡ true → IsSeveral ts i
several ts i h = step (slice_get ts i) refl h
  where
    step : (o : Option (AtomOver ℕ)) → slice_get ts i ≡ o
        → elim o as (λ _. Bool) [ None ↦ false | Some a ↦ is_joined_atom a ] ≡ true → IsSeveral ts i
    step (Some (in_atom ps n)) there is = record { pieces = ps; number = n; names = there; several = is }
    step None there is = absurd (false≢true is)
    step (Some (bool_atom k)) there is = absurd (false≢true is)
    step (Some (le_atom x k)) there is = absurd (false≢true is)
    step (Some (sum_atom k ss)) there is = absurd (false≢true is)
    step (Some (and_atom ls)) there is = absurd (false≢true is)
    step (Some (iff_atom k m)) there is = absurd (false≢true is)

-- What is left is wrong as the whole is.

pub record IsWrongRest (x : Strings) (at rest : Lit) : Type 0 where
  pub left : IsLeft x rest.atom
  pub fewer : pieces_at x rest.atom < pieces_at x at.atom
  pub wrong : is_true_by x.store.arena x.atoms x.words.items rest ≡ false
  pub pieces : List Piece
  pub number : ℕ
  pub names : Names x.atoms rest.atom (in_atom pieces number)

-- what the pieces and the regex of what is left are, by the number of it
left_pieces : (x : Strings) (i : ℕ) (left : IsLeft x i) (ps : List Piece) (n : ℕ) → Names x.atoms i (in_atom ps n)
    → left.left ≡ ps
left_pieces x i left ps n names =
    pieces_of_same left.left ps left.regex (regex_at x.store.arena n)
    (sym left.names ∙ named_in x.store.arena x.atoms i (in_atom ps n) names)

left_regex : (x : Strings) (i : ℕ) (left : IsLeft x i) (ps : List Piece) (n : ℕ) → Names x.atoms i (in_atom ps n)
    → left.regex ≡ regex_at x.store.arena n
left_regex x i left ps n names =
    regex_of_same left.left ps left.regex (regex_at x.store.arena n)
    (sym left.names ∙ named_in x.store.arena x.atoms i (in_atom ps n) names)

word_rest : DerivativeAlongHasRests → (x : Strings) (at : Lit) (left : IsLeft x at.atom) (w : List ℕ) (ps : List Piece)
    (n c : ℕ) → Names x.atoms at.atom (in_atom (word_piece w ∷ ps) n)
    → is_true_by x.store.arena x.atoms x.words.items at ≡ false
    → slice_get (atoms_in x.store.arena x.atoms) c ≡ Some (in_atom ps (nd_along (regex_at x.store.arena n) w))
    → IsWrongRest x at (of_sign at.positive c)
word_rest along x at left w ps n c names wrong there =
    let rs = x.store.arena in
    let ws = x.words.items in
    let r = regex_at rs n in
    let m = member_back rs x.atoms c ps (nd_along r w) there in
    let whole = ap pieces_of names in
    let rest = ap pieces_of m.names in
    record {
      left = left_word x at.atom c left w ps (left_pieces x at.atom left (word_piece w ∷ ps) n names)
          (there ∙ ap (λ (s : Regex). Some (in_atom ps (nd_along s w)))
          (sym (left_regex x at.atom left (word_piece w ∷ ps) n names)));
      fewer = omega (arith, whole, rest);
      wrong = true_by_pieces rs x.atoms ws (of_sign at.positive c) ps m.number m.names
          ∙ ap (λ (s : Regex). signed at.positive (language s (joined_word ws ps))) m.regex
          ∙ ap (signed at.positive) (along r w (joined_word ws ps))
          ∙ sym (true_by_pieces rs x.atoms ws at (word_piece w ∷ ps) n names) ∙ wrong;
      pieces = ps;
      number = m.number;
      names = m.names;
    }

constant_rest : DerivativeAlongHasRests → (x : Strings) (at : Lit) (left : IsLeft x at.atom) (z : ℕ) (ps : List Piece)
    (n q c : ℕ) → Names x.atoms at.atom (in_atom (constant_piece z ∷ ps) n) → IsLed x z (regex_at x.store.arena n) q
    → is_true_by x.store.arena x.atoms x.words.items at ≡ false
    → slice_get (atoms_in x.store.arena x.atoms) c ≡ Some (in_atom ps (regex_at x.store.arena q))
    → joined_word x.words.items (constant_piece z ∷ ps) ≡ word_at x.words.items z ++ joined_word x.words.items ps
    → IsWrongRest x at (of_sign at.positive c)
constant_rest along x at left z ps n q c names led wrong there parts =
    let rs = x.store.arena in
    let ws = x.words.items in
    let r = regex_at rs n in
    let m = member_back rs x.atoms c ps (regex_at rs q) there in
    let whole = ap pieces_of names in
    let rest = ap pieces_of m.names in
    record {
      left = left_behind x at.atom c q left z ps (left_pieces x at.atom left (constant_piece z ∷ ps) n names) led.base
          led.below there;
      fewer = omega (arith, whole, rest);
      wrong = true_by_pieces rs x.atoms ws (of_sign at.positive c) ps m.number m.names
          ∙ ap (λ (s : Regex). signed at.positive (language s (joined_word ws ps))) (m.regex ∙ led.is)
          ∙ ap (signed at.positive) (along r (word_at ws z) (joined_word ws ps))
          ∙ ap (λ (w : List ℕ). signed at.positive (language r w)) (sym parts)
          ∙ sym (true_by_pieces rs x.atoms ws at (constant_piece z ∷ ps) n names) ∙ wrong;
      pieces = ps;
      number = m.number;
      names = m.names;
    }

-- Where the constant leads is as its word has it.

pub record IsRightLead (x : Strings) (lead : Lit) : Type 0 where
  pub wish : IsWish x lead.atom
  pub constant : ℕ
  pub number : ℕ
  pub names : Names x.atoms lead.atom (in_atom (constant_piece constant ∷ []) number)
  pub right : is_true_by x.store.arena x.atoms x.words.items lead ≡ true
  pub positive : lead.positive ≡ true

path_leads : MkpathKeepsLanguage → OrderTellsApart → (r q : Regex) (w : List ℕ) → q ≡ nd_along r w
    → language (mkpath r q) w ≡ true
unfolding language
path_leads keeps apart r q w is =
    keeps r q w ∙ ap (λ (s : Regex). language (path r s) w) is ∙ regex_itself apart (nd_along r w)

right_lead : MkpathKeepsLanguage → OrderTellsApart → (x : Strings) (at : Lit) (left : IsLeft x at.atom) (z : ℕ)
    (ps : List Piece) (n q b : ℕ) → Names x.atoms at.atom (in_atom (constant_piece z ∷ ps) n)
    → IsLed x z (regex_at x.store.arena n) q
    → slice_get (atoms_in x.store.arena x.atoms) b
    ≡ Some (in_atom (constant_piece z ∷ []) (mkpath (regex_at x.store.arena n) (regex_at x.store.arena q)))
    → IsRightLead x (plus b)
right_lead keeps apart x at left z ps n q b names led there =
    let rs = x.store.arena in
    let ws = x.words.items in
    let r = regex_at rs n in
    let m = member_back rs x.atoms b (constant_piece z ∷ []) (mkpath r (regex_at rs q)) there in
    record {
      wish = left_constant x at.atom b q left z ps (left_pieces x at.atom left (constant_piece z ∷ ps) n names) led.base
          led.below
          (there ∙ ap (λ (s : Regex). Some (in_atom (constant_piece z ∷ []) (mkpath s (regex_at rs q))))
          (sym (left_regex x at.atom left (constant_piece z ∷ ps) n names)));
      constant = z;
      number = m.number;
      names = m.names;
      right = true_by_pieces rs x.atoms ws (plus b) (constant_piece z ∷ []) m.number m.names
          ∙ ap (λ (s : Regex). language s (word_at ws z ++ [])) m.regex
          ∙ ap (language (mkpath r (regex_at rs q))) (append-nil (word_at ws z))
          ∙ path_leads keeps apart r (regex_at rs q) (word_at ws z) led.is;
      positive = refl;
    }

-- What a step says of a wrong literal.

-- each literal of the clause is false on the trail, given that of where the constant leads as true, and that of what is
-- left as false
pub record IsTold (x : Strings) (ls : List Lit) (at : Lit) (step : Step) : Type 0 where
  pub lead : (b : Lit) → step.lead ≡ Some b → IsRightLead x b
  pub rest : (m : Lit) → step.rest ≡ Some m → IsWrongRest x at m
  pub is_false : ((b : Lit) → step.lead ≡ Some b → is_among ls b ≡ true)
      → ((m : Lit) → step.rest ≡ Some m → is_false_under ls m ≡ true) → is_false_clause ls step.clause ≡ true

false_ordered : (ls clause : List Lit) → All (λ l. is_false_under ls l ≡ true) clause
    → is_false_clause ls (in_order clause) ≡ true
false_ordered ls clause h =
    list_all-from_AllPass (is_false_under ls) (in_order clause) (λ k d less.
    All-contains (λ l. is_false_under ls l ≡ true) clause (get_or (in_order clause) k d) h
    ((set_ordered clause).no_others (get_or (in_order clause) k d) (All-contains_itself (in_order clause) k d less)))

false_negated : (ls : List Lit) (l : Lit) → is_among ls l ≡ true → is_false_under ls (negation l) ≡ true
false_negated ls l h = ap (is_among ls) (negation_twice l) ∙ h

no_literal : (o : Option Lit) (l : Lit) → o ≡ None → o ≡ Some l → ⊥
no_literal o l none some = Prim.cc (none, some)

told_end : NullableHasEmptyWord → (x : Strings) (ls : List Lit) (at : Lit) (n : ℕ) (step : Step)
    → Names x.atoms at.atom (in_atom [] n) → is_among ls at ≡ true
    → is_true_by x.store.arena x.atoms x.words.items at ≡ false
    → IsEndStep at.atom (regex_at x.store.arena n) step → IsTold x ls at step
told_end nullables x ls at n step names among wrong h =
    let r = regex_at x.store.arena n in
    let truth = opposite at.positive (language r [])
    (sym (true_by_pieces x.store.arena x.atoms x.words.items at [] n names) ∙ wrong) in
    record {
      lead = λ b is. absurd (no_literal step.lead b h.lead is);
      rest = λ m is. absurd (no_literal step.rest m h.rest is);
      is_false = λ leads rests.
          ap (is_false_clause ls) (h.clause ∙ ap (λ (b : Bool). of_sign b at.atom ∷ []) (nullables r ∙ truth))
          ∙ and_from (is_false_under ls (negation at)) true (false_negated ls at among) refl;
    }
  where
    opposite : (p b : Bool) → signed p b ≡ false → b ≡ not p
    opposite true b is = is
    opposite false true is = refl
    opposite false false is = absurd (true≢false is)

told_word : DerivativeAlongHasRests → (x : Strings) (ls : List Lit) (at : Lit) (left : IsLeft x at.atom) (w : List ℕ)
    (ps : List Piece) (n : ℕ) (step : Step) → Names x.atoms at.atom (in_atom (word_piece w ∷ ps) n)
    → is_among ls at ≡ true → is_true_by x.store.arena x.atoms x.words.items at ≡ false
    → IsWordStep (atoms_in x.store.arena x.atoms) at (in_atom ps (nd_along (regex_at x.store.arena n) w)) step
    → IsTold x ls at step
told_word along x ls at left w ps n step names among wrong h = record {
  lead = λ b is. absurd (no_literal step.lead b h.lead is);
  rest = λ m is. subst (IsWrongRest x at) (same_Some (of_sign at.positive h.c) m (sym h.rest ∙ is))
      (word_rest along x at left w ps n h.c names wrong h.there);
  is_false = λ leads rests.
      ap (is_false_clause ls) h.clause
      ∙ false_ordered ls (negation at ∷ of_sign at.positive h.c ∷ [])
      (All-cons (λ l. is_false_under ls l ≡ true) (negation at) (of_sign at.positive h.c ∷ [])
      (false_negated ls at among)
      (All-cons (λ l. is_false_under ls l ≡ true) (of_sign at.positive h.c) [] (rests (of_sign at.positive h.c) h.rest)
      (All-nil (λ l. is_false_under ls l ≡ true))));
}

told_constant : DerivativeAlongHasRests → MkpathKeepsLanguage → OrderTellsApart → (x : Strings) (ls : List Lit)
    (at : Lit) (left : IsLeft x at.atom) (z : ℕ) (p : Piece) (ps : List Piece) (n q : ℕ) (step : Step)
    → Names x.atoms at.atom (in_atom (constant_piece z ∷ p ∷ ps) n) → is_among ls at ≡ true
    → is_true_by x.store.arena x.atoms x.words.items at ≡ false → IsLed x z (regex_at x.store.arena n) q
    → IsConstantStep (atoms_in x.store.arena x.atoms) at
    (in_atom (constant_piece z ∷ []) (mkpath (regex_at x.store.arena n) (regex_at x.store.arena q)))
    (in_atom (p ∷ ps) (regex_at x.store.arena q)) step
    → IsTold x ls at step
told_constant along keeps apart x ls at left z p ps n q step names among wrong led h = record {
  lead = λ b is. subst (IsRightLead x) (same_Some (plus h.b) b (sym h.lead ∙ is))
      (right_lead keeps apart x at left z (p ∷ ps) n q h.b names led h.leads);
  rest = λ m is. subst (IsWrongRest x at) (same_Some (of_sign at.positive h.c) m (sym h.rest ∙ is))
      (constant_rest along x at left z (p ∷ ps) n q h.c names led wrong h.there refl);
  is_false = λ leads rests.
      ap (is_false_clause ls) h.clause
      ∙ false_ordered ls (minus h.b ∷ negation at ∷ of_sign at.positive h.c ∷ [])
      (All-cons (λ l. is_false_under ls l ≡ true) (minus h.b) (negation at ∷ of_sign at.positive h.c ∷ [])
      (false_negated ls (plus h.b) (leads (plus h.b) h.lead))
      (All-cons (λ l. is_false_under ls l ≡ true) (negation at) (of_sign at.positive h.c ∷ [])
      (false_negated ls at among)
      (All-cons (λ l. is_false_under ls l ≡ true) (of_sign at.positive h.c) [] (rests (of_sign at.positive h.c) h.rest)
      (All-nil (λ l. is_false_under ls l ≡ true)))));
}

told_of : NullableHasEmptyWord → DerivativeAlongHasRests → MkpathKeepsLanguage → OrderTellsApart → (x : Strings)
    (ls : List Lit) (at : Lit) (left : IsLeft x at.atom) (ps : List Piece) (n q : ℕ) (step : Step)
    → Names x.atoms at.atom (in_atom ps n) → is_joined_atom (in_atom ps n) ≡ true → is_among ls at ≡ true
    → is_true_by x.store.arena x.atoms x.words.items at ≡ false → IsBetween x at q
    → IsStepOf (atoms_in x.store.arena x.atoms) at (regex_at x.store.arena q) (in_atom ps (regex_at x.store.arena n))
    (Some step)
    → IsTold x ls at step
told_of nullables along keeps apart x ls at left [] n q step names is among wrong between h =
    told_end nullables x ls at n step names among wrong h
told_of nullables along keeps apart x ls at left (word_piece w ∷ ps) n q step names is among wrong between h =
    told_word along x ls at left w ps n step names among wrong h
told_of nullables along keeps apart x ls at left (constant_piece z ∷ []) n q step names is among wrong between h =
    absurd (false≢true is)
told_of nullables along keeps apart x ls at left (constant_piece z ∷ p ∷ ps) n q step names is among wrong between h =
    told_constant along keeps apart x ls at left z p ps n q step names among wrong (between.leads z p ps n names) h

pub told : NullableHasEmptyWord → DerivativeAlongHasRests → MkpathKeepsLanguage → OrderTellsApart → (x : Strings)
    (entries : List Assigned) (at : Lit) (q : ℕ) (step : Step) → IsWrong x entries at → IsBetween x at q
    → IsStepAt x.store.arena x.atoms q at (Some step) → IsTold x (held entries) at step
told nullables along keeps apart x entries at q step wrong between h =
    let s = several x.atoms at.atom wrong.joined in
    told_of nullables along keeps apart x (held entries) at wrong.left s.pieces s.number q step s.names s.several
    wrong.held wrong.wrong between (h (in_atom s.pieces s.number) s.names)

-- Literals of one constant, whose atoms are noted, are as the words have them.

among_filter : (f : Lit → Bool) (ls : List Lit) (l : Lit) → is_among ls l ≡ true → f l ≡ true
    → is_among (filter f ls) l ≡ true
among_filter f [] l among passes = among
among_filter f (m ∷ ls) l among passes =
    step (f m) refl (or_cases (is_same_literal m l) (is_among ls l) among) (λ h. among_filter f ls l h passes)
  where
    step : (b : Bool) → f m ≡ b → ◌⊎◌ (is_same_literal m l ≡ true) (is_among ls l ≡ true)
        → (is_among ls l ≡ true → is_among (filter f ls) l ≡ true)
        → is_among (if b then m ∷ filter f ls else filter f ls) l ≡ true
    step true is (inl here) more = or_left (is_same_literal m l) (is_among (filter f ls) l) here
    step true is (inr there) more = or_right (is_same_literal m l) (is_among (filter f ls) l) (more there)
    step false is (inl here) more =
        absurd (false≢true (sym is ∙ ap f (is_same_literal-true m l here) ∙ passes))
    step false is (inr there) more = more there

pub noted_right : (x : Strings) (entries : List Assigned) (l : Lit) (z : ℕ) → Holds x → x.taken.items ≡ entries
    → x.changed ≡ [] → is_among (held entries) l ≡ true → is_wanted x.noted l.atom ≡ true
    → subject_of x.atoms l ≡ Some z → is_true_by x.store.arena x.atoms x.words.items l ≡ true
noted_right x entries l z h whole settled among noted subject =
    let p = is_true_of x.store.arena x.atoms (word_at x.words.items z) in
    let row = row_at x.members.items z in
    let about : is_about x.atoms z l ≡ true =
    ap (is_subject z) subject ∙ eq-eqb z z refl in
    let there : is_among row l ≡ true =
    ap (λ (ls : List Lit). is_among ls l)
    (h.rows.members z ∙ ap (λ (es : List Assigned). literals_about x.atoms z (wanted_on x.noted es)) whole)
    ∙ among_filter (is_about x.atoms z) (wanted_on x.noted entries) l
    (among_filter (is_of_wanted x.noted) (held entries) l among noted) about in
    let all : list_all p row ≡ true =
    sym (ap (list_all p) (take_all (number_at x.fitting.items z) row
    (h.rows.fit.whole z (ap (λ (cs : List Serial). is_in cs z) settled)))) ∙ h.rows.fit.front z in
    ap (fits_subject x.store.arena x.atoms x.words.items l) subject ∙ all_among p row l all there

-- a literal of one constant alone
subject_one : (ts : List (AtomOver ℕ)) (l : Lit) (z n : ℕ) → Names ts l.atom (in_atom (constant_piece z ∷ []) n)
    → subject_of ts l ≡ Some z
subject_one ts l z n names = ap (option_and_then constant_of) names

subject_of_one : (ts : List (AtomOver ℕ)) (l : Lit) (ps : List Piece) (n : ℕ) → Names ts l.atom (in_atom ps n)
    → is_joined ts l.atom ≡ false → (z : ℕ) × (subject_of ts l ≡ Some z)
subject_of_one ts l (constant_piece z ∷ []) n names h = (z, subject_one ts l z n names)
subject_of_one ts l [] n names h = absurd (true≢false (sym (joined_named ts l.atom [] n names) ∙ h))
  where
    joined_named : (us : List (AtomOver ℕ)) (i : ℕ) (qs : List Piece) (k : ℕ) → Names us i (in_atom qs k)
        → is_joined us i ≡ is_joined_atom (in_atom qs k)
    joined_named us i qs k is =
        ap (λ (o : Option (AtomOver ℕ)). elim o as (λ _. Bool) [ None ↦ false | Some a ↦ is_joined_atom a ]) is
subject_of_one ts l (word_piece w ∷ ps) n names h =
    absurd (true≢false (sym (ap (λ (o : Option (AtomOver ℕ)).
    elim o as (λ _. Bool) [ None ↦ false | Some a ↦ is_joined_atom a ]) names) ∙ h))
subject_of_one ts l (constant_piece z ∷ p ∷ ps) n names h =
    absurd (true≢false (sym (ap (λ (o : Option (AtomOver ℕ)).
    elim o as (λ _. Bool) [ None ↦ false | Some a ↦ is_joined_atom a ]) names) ∙ h))

-- The literal of where a constant leads is true on the trail, where it has a value.

negated_wrong : (rs : List Regex) (ts : List (AtomOver ℕ)) (ws : List (Option (List ℕ))) (l : Lit) (ps : List Piece)
    (n : ℕ) → Names ts l.atom (in_atom ps n) → is_true_by rs ts ws l ≡ true → is_true_by rs ts ws (negation l) ≡ true
    → ⊥
negated_wrong rs ts ws l ps n names right wrong =
    step l.positive (language (regex_at rs n) (joined_word ws ps)) (sym (true_by_pieces rs ts ws l ps n names) ∙ right)
    (sym (true_by_pieces rs ts ws (negation l) ps n names) ∙ wrong)
  where
    step : (p b : Bool) → signed p b ≡ true → signed (not p) b ≡ true → ⊥
    step true true h k = false≢true k
    step true false h k = false≢true h
    step false true h k = false≢true h
    step false false h k = false≢true k

value_cases : (ls : List Lit) (l : Lit) → value_under ls l ≢ None
    → ◌⊎◌ (is_among ls l ≡ true) (is_false_under ls l ≡ true)
value_cases ls l some = step (is_true_under ls l) (is_false_under ls l) refl refl some
  where
    step : (a b : Bool) → is_true_under ls l ≡ a → is_false_under ls l ≡ b
        → (if a then Some true else if b then Some false else None) ≢ None
        → ◌⊎◌ (is_among ls l ≡ true) (is_false_under ls l ≡ true)
    step true b is not_so some = inl is
    step false true is not_so some = inr not_so
    step false false is not_so some = absurd (some refl)

lead_true : (x : Strings) (entries : List Assigned) (b : Lit) → Holds x → x.taken.items ≡ entries → x.changed ≡ []
    → IsRightLead x b → is_wanted x.noted b.atom ≡ true → value_under (held entries) b ≢ None
    → is_among (held entries) b ≡ true
lead_true x entries b h whole settled lead noted valued = elim (value_cases (held entries) b valued) [
  | inl is ↦ is
  | inr denied ↦
      absurd (negated_wrong x.store.arena x.atoms x.words.items b (constant_piece lead.constant ∷ []) lead.number
      lead.names
      lead.right
      (noted_right x entries (negation b) lead.constant h whole settled denied noted
      (subject_one x.atoms (negation b) lead.constant lead.number lead.names)))
]

-- What a step comes to, on the trail.

pub is_known : (ts : List (AtomOver ℕ)) (i : ℕ) (a : AtomOver ℕ) → Names ts i a → is_atom ts i ≡ true
is_known ts i a names = lt-ltb i (length ts) (slice_get_within ts i a names)

noted_of : (x : Strings) (o : Option Lit) (l : Lit) → o ≡ Some l → IsNoted x o → is_wanted x.noted l.atom ≡ true
noted_of x o l is h = subst (IsNoted x) is h

-- where the literal of where the constant leads has no value
pub lead_asked : (x y : Strings) (entries : List Assigned) (b l : Lit) → IsRightLead x b
    → value_of entries b.atom ≡ None → l.atom ≡ b.atom → (IsWish x b.atom → IsWish y b.atom) → y.atoms ≡ x.atoms
    → IsWeighed y entries 0 (walked.Ask l)
lead_asked x y entries b l lead none same wish tables = (
  ap (value_of entries) same ∙ none,
  subst (IsWish y) (sym same) (wish lead.wish),
  ap₂ is_atom tables same
      ∙ is_known x.atoms b.atom (in_atom (constant_piece lead.constant ∷ []) lead.number) lead.names,
)

-- and else
weighed_to : (x : Strings) (entries : List Assigned) (at l : Lit) → Holds x → x.taken.items ≡ entries → x.changed ≡ []
    → IsWrongRest x at l → is_wanted x.noted l.atom ≡ true → is_among (held entries) l ≡ true → (b : Bool)
    → is_joined x.atoms l.atom ≡ b → IsWrong x entries l
weighed_to x entries at l h whole settled rest noted held true joined =
    record { held = held; left = rest.left; joined = joined; wrong = rest.wrong }
weighed_to x entries at l h whole settled rest noted held false joined =
    let one = subject_of_one x.atoms l rest.pieces rest.number rest.names joined in
    absurd (false≢true (sym rest.wrong ∙ noted_right x entries l one.0 h whole settled held noted one.1))

pub weighed : (x : Strings) (entries : List Assigned) (at : Lit) (q : ℕ) (step : Step) (walked : Walked) → Holds x
    → x.taken.items ≡ entries → x.changed ≡ [] → IsWrong x entries at → IsTold x (held entries) at step
    → IsStepAt x.store.arena x.atoms q at (Some step) → IsNoted x step.lead → IsNoted x step.rest
    → IsOpenLead entries step None → IsOfRest entries step walked
    → IsWeighed x entries (pieces_at x at.atom) walked
weighed x entries at q step (walked.Ask l) h whole settled wrong t is lead rest unled of =
    let m = t.rest of.0 of.1 in (
      ap (value_of entries) of.3 ∙ of.2,
      subst (IsWish x) (sym of.3) (left_wish x of.0.atom m.left),
      ap (is_atom x.atoms) of.3 ∙ is_known x.atoms of.0.atom (in_atom m.pieces m.number) m.names,
    )
weighed x entries at q step (walked.Step clause) h whole settled wrong t is lead rest unled of =
    let s = several x.atoms at.atom wrong.joined in
    let ordered = step_is x.store.arena x.atoms q at (in_atom s.pieces s.number) step s.names is in
    subst (IsFalseStep x entries) (sym of.0) (record {
      step = ordered.step;
      ascend = ordered.ascend;
      some = ordered.some;
      known = list_all-from_AllPass (λ l. is_atom x.atoms l.atom) step.clause (λ k d less.
          lt-ltb (get_or step.clause k d).atom (length x.atoms)
          (subst (λ (n : ℕ). (get_or step.clause k d).atom < n)
          (length-map x.atoms (over x.store.arena))
          (step_known (atoms_in x.store.arena x.atoms) step.clause ordered.step (get_or step.clause k d)
          (All-contains_itself step.clause k d less))));
      is_false = t.is_false
          (λ b there. lead_true x entries b h whole settled (t.lead b there) (noted_of x step.lead b there lead)
          (unled b there)) of.1;
    })
weighed x entries at q step (walked.To l) h whole settled wrong t is lead rest unled of =
    let m = t.rest l of.0 in (
      weighed_to x entries at l h whole settled m (noted_of x step.rest l of.0 rest) of.1 (is_joined x.atoms l.atom)
          refl,
      m.fewer,
    )
weighed x entries at q step walked.Noted h whole settled wrong t is lead rest unled of = absurd of
weighed x entries at q step walked.Spent h whole settled wrong t is lead rest unled of = absurd of

-- Where the store grows, and nothing else that wishes rest on.

abbrev wishes_by : List ℕ → List ℕ → Traced → List (AtomOver ℕ) → List Wish
wishes_by wanted keys trace atoms =
    wishes_of (flat_map (λ i. tails_in (slice_get atoms i)) wanted)
    (flat_map (λ i. regexes_in (slice_get atoms i)) wanted ++ keys ++ expanded_in trace)

pub wish_kept : {x y : Strings} (i : ℕ) → Keeps x y → IsWish x i → IsWish y i
wish_kept {x} {y} i k h =
    let wanted : y.wanted ≡ x.wanted = ap (λ (f : Frame). f.wanted) k.grows.frame in
    let atoms : y.atoms ≡ x.atoms = ap (λ (t : Tables). t.atoms) k.tables in
    let keys : y.expanded.keys ≡ x.expanded.keys = ap (λ (t : Tables). t.expanded) k.tables in
    let trace : y.trace ≡ x.trace = ap (λ (t : Tables). t.trace) k.tables in
    let same : wishes y ≡ wishes x =
    ap (λ (w : List ℕ). wishes_by w y.expanded.keys y.trace y.atoms) wanted
    ∙ ap (λ (w : List ℕ). wishes_by x.wanted w y.trace y.atoms) keys
    ∙ ap (λ (w : Traced). wishes_by x.wanted x.expanded.keys w y.atoms) trace
    ∙ ap (wishes_by x.wanted x.expanded.keys x.trace) atoms in
    let e = k.grows.store.more.extends in
    let below = length x.store.arena in record {
      wish = h.wish;
      among = subst (λ (ws : List Wish). Contains ws h.wish) (sym same) h.among;
      there = there_more x.store.arena y.store.arena h.wish (long_kept x.store.arena y.store.arena e) h.there;
      atom = h.atom;
      is = atom_grown x.store.arena y.store.arena h.wish e h.there ∙ h.is;
      names = named_grown x.store.arena y.store.arena x.atoms y.atoms e k.grows.table.extends k.grows.below i h.atom
          h.names;
    }
  where
    there_more : (old new : List Regex) (wish : Wish) → length old ≤ length new → is_there old wish ≡ true
        → is_there new wish ≡ true
    there_more old new wish long there =
        let p = and_parts (nat_lt wish.from (length old)) (is_within old wish.to) there in
        and_from (nat_lt wish.from (length new)) (is_within new wish.to) (more wish.from p.0) (within wish.to p.1)
      where
        more : (n : ℕ) → nat_lt n (length old) ≡ true → nat_lt n (length new) ≡ true
        more n h = let low = ltb-true n (length old) h in lt-ltb n (length new) (omega (arith, low, long))

        within : (o : Option ℕ) → is_within old o ≡ true → is_within new o ≡ true
        within None h = refl
        within (Some q) h = more q h

pub lead_known : (x : Strings) (lead : Lit) → IsRightLead x lead → lead.atom < length x.atoms
lead_known x lead h =
    slice_get_within x.atoms lead.atom (in_atom (constant_piece h.constant ∷ []) h.number) h.names

-- The row of a constant, with the negation of where it leads behind it.
pub about_denied : (ts : List (AtomOver ℕ)) (z n : ℕ) (lead : Lit) (rows : List (List Lit)) (ls all : List Lit)
    → Names ts lead.atom (in_atom (constant_piece z ∷ []) n) → all ≡ row_at rows z ++ negation lead ∷ []
    → AreMembers ts rows ls → AreAbout ts z all
about_denied ts z n lead rows ls all names is h =
    all_about ts z all
    (ap (list_all (is_about ts z)) is
    ∙ all_push (is_about ts z) (row_at rows z) (negation lead) (row_passes ts z rows ls h)
    (ap (is_subject z) (subject_one ts (negation lead) z n names) ∙ eq-eqb z z refl))
