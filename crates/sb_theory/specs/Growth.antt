-- What stays where the table of atoms and the arena grow: lemmas that the laws of the theory cite.
use Rattle.std.proofs.Common.{◌≡◌, ℕ, ◌≤◌, Bool, true, false, nat_lt, if◌then◌else◌, List, [], ◌∷◌, ◌++◌, map, length, get_or, refl, sym, ap, ap₂, subst, ◌∙◌, inl, inr, arith, append_assoc}
use Rattle.std.proofs.lemmas.Bool.{lt-ltb, ltb-true}
use Rattle.std.proofs.lemmas.Bool.Decides.{nat_tests}
use Rattle.std.proofs.lemmas.List.{append-nil, length-append}
use Rattle.std.proofs.lemmas.List.Elements.{All-head, All-map, All-tail}
use Rattle.std.proofs.lemmas.Option.{get_or_from_slice_get, slice_get_within}
use Rattle.sb_lang.specs.Constructors.{mkand, mknot}
use Rattle.sb_lang.specs.Language.{language}
use Rattle.sb_lit.specs.Clauses.{negation}
use Rattle.sb_lit.proofs.CallerLemmas.{all_among, all_from_among}
use Rattle.sb_regex.proofs.CallerLemmas.{at_kept, long_kept}
use Rattle.sb_regex.specs.Numbered as regex
use Rattle.sb_atoms.proofs.CallerLemmas.{named_before}
use Rattle.sb_trace.proofs.CallerLemmas.{reached_grows}
use Rattle.sb_trace.specs.Reaching.{IsReached}
use Rattle.sb_trace.specs.Tracking.{is_expanded_in}
use Rattle.sb_clash.proofs.CallerLemmas.{regex_below}
use Rattle.sb_clash.specs.Denials.{IsDenial, IsOfDenial, denied_by}
use Rattle.sb_clash.specs.Literals.{AreAbout, AreClashing, IsAbout, asked_by, number_in}
use Rattle.sb_split.proofs.CallerLemmas.{names_more}
use Rattle.sb_theory.specs.Words.{AtomOver, Extends, HaveRegexesBelow, Kept, Lit, Names, Regex, Traced, bool_atom, constant_piece, in_atom, regex_at}
use Rattle.sb_theory.specs.Memberships.{HaveAtoms, are_atoms, is_atom}
use Rattle.sb_theory.specs.Tables.{IsMembership, TableGrows}
use Rattle.sb_theory.specs.Strings.{ExpandsRelevant, IsOfMembership}

-- Tables.

pub extends_none : (ts : List (AtomOver ℕ)) → Extends ts ts
extends_none ts = record { more = []; is = sym (append-nil ts) }

pub extends_both : (ts us vs : List (AtomOver ℕ)) → Extends ts us → Extends us vs → Extends ts vs
extends_both ts us vs p q = record {
  more = p.more ++ q.more;
  is = q.is ∙ ap (λ (xs : List (AtomOver ℕ)). xs ++ q.more) p.is ∙ append_assoc ts p.more q.more;
}

none_new : (ts : List (AtomOver ℕ)) (i : ℕ) (a : AtomOver ℕ) → length ts ≤ i → Names ts i a → ⊥
none_new ts i a low names = omega (arith, low, slice_get_within ts i a names)

pub table_none : (ts : List (AtomOver ℕ)) → TableGrows ts ts
table_none ts = record {
  extends = extends_none ts;
  members = λ i a low names. absurd (none_new ts i a low names);
  formed = λ h. h;
  declared = λ sorts h. h;
}

pub table_both : (ts us vs : List (AtomOver ℕ)) → TableGrows ts us → TableGrows us vs → TableGrows ts vs
table_both ts us vs p q = record {
  extends = extends_both ts us vs p.extends q.extends;
  members = λ i a low names. member i a low names (nat_lt i (length us)) refl;
  formed = λ h. q.formed (p.formed h);
  declared = λ sorts h. q.declared sorts (p.declared sorts h);
}
  where
    member : (i : ℕ) (a : AtomOver ℕ) → length ts ≤ i → Names vs i a → (b : Bool) → nat_lt i (length us) ≡ b
        → IsMembership a
    member i a low names true is =
        p.members i a low
        (named_before us q.extends.more i a (ltb-true i (length us) is)
        (subst (λ (xs : List (AtomOver ℕ)). Names xs i a) q.extends.is names))
    member i a low names false is = q.members i a (grind (arith, nat_tests)) names

-- Atoms that are there.

pub atom_more : (ts us : List (AtomOver ℕ)) (i : ℕ) → Extends ts us → is_atom ts i ≡ true → is_atom us i ≡ true
atom_more ts us i e h =
    let low = ltb-true i (length ts) h in
    lt-ltb i (length us) (omega (arith, low, ap length e.is, length-append ts e.more))

pub all_atoms_more : (ts us : List (AtomOver ℕ)) (ls : List Lit) → Extends ts us → are_atoms ts ls ≡ true
    → are_atoms us ls ≡ true
all_atoms_more ts us ls e h =
    all_from_among (λ l. is_atom us l.atom) ls
    (λ l among. atom_more ts us l.atom e (all_among (λ m. is_atom ts m.atom) ls l h among))

pub have_atoms_more : (ts us : List (AtomOver ℕ)) (kept : Kept) → Extends ts us → HaveAtoms ts kept → HaveAtoms us kept
have_atoms_more ts us kept e h = λ id clause there. all_atoms_more ts us clause.literals e (h id clause there)

-- Literals of one constant, and what they ask for.

pub about_more : (ts us : List (AtomOver ℕ)) (x : ℕ) (l : Lit) → Extends ts us → IsAbout ts x l → IsAbout us x l
about_more ts us x l e h = record {
  regex = h.regex;
  names = names_more ts us l.atom (in_atom (constant_piece x ∷ []) h.regex) e h.names;
}

pub all_about_more : (ts us : List (AtomOver ℕ)) (x : ℕ) (ls : List Lit) → Extends ts us → AreAbout ts x ls
    → AreAbout us x ls
all_about_more ts us x ls e h = λ k d within. about_more ts us x (get_or ls k d) e (h k d within)

negations_about : (ts : List (AtomOver ℕ)) (x : ℕ) (ls : List Lit) → AreAbout ts x ls → AreAbout ts x (map negation ls)
negations_about ts x ls h =
    All-map (IsAbout ts x) negation ls (λ k d m. let g = h k d m in record { regex = g.regex; names = g.names })

pub number_more : (ts us : List (AtomOver ℕ)) (x : ℕ) (l : Lit) → Extends ts us → IsAbout ts x l
    → number_in (get_or us l.atom (bool_atom 0)) ≡ number_in (get_or ts l.atom (bool_atom 0))
number_more ts us x l e h =
    let a : AtomOver ℕ = in_atom (constant_piece x ∷ []) h.regex in
    ap number_in (get_or_from_slice_get us l.atom a (bool_atom 0) (names_more ts us l.atom a e h.names)
    ∙ sym (get_or_from_slice_get ts l.atom a (bool_atom 0) h.names))

-- the regex of its membership
pub regex_more : (rs ss : List Regex) (ts us : List (AtomOver ℕ)) (x : ℕ) (l : Lit) → regex.Extends rs ss
    → Extends ts us → HaveRegexesBelow (length rs) ts → IsAbout ts x l
    → regex_at ss (number_in (get_or us l.atom (bool_atom 0)))
    ≡ regex_at rs (number_in (get_or ts l.atom (bool_atom 0)))
regex_more rs ss ts us x l r e below h =
    ap (regex_at ss) (number_more ts us x l e h)
    ∙ at_kept rs ss (number_in (get_or ts l.atom (bool_atom 0))) r (regex_below (length rs) ts x l below h)

all_asked_more : (rs ss : List Regex) (ts us : List (AtomOver ℕ)) (x : ℕ) (ls : List Lit) → regex.Extends rs ss
    → Extends ts us → HaveRegexesBelow (length rs) ts → AreAbout ts x ls
    → map (asked_by ss us) ls ≡ map (asked_by rs ts) ls
all_asked_more rs ss ts us x [] r e below h = refl
all_asked_more rs ss ts us x (l ∷ ls) r e below h =
    ap₂ (λ (s : Regex) (more : List Regex). s ∷ more)
    (ap (λ (s : Regex). if l.positive then s else mknot s)
    (regex_more rs ss ts us x l r e below (All-head (IsAbout ts x) l ls h)))
    (all_asked_more rs ss ts us x ls r e below (All-tail (IsAbout ts x) l ls h))

pub clash_more : (rs ss : List Regex) (ts us : List (AtomOver ℕ)) (x : ℕ) (ls : List Lit) → regex.Extends rs ss
    → Extends ts us → HaveRegexesBelow (length rs) ts → AreAbout ts x ls → AreClashing rs ts ls → AreClashing ss us ls
clash_more rs ss ts us x ls r e below about h =
    λ w word. ap (λ (all : List Regex). language (mkand all) w) (all_asked_more rs ss ts us x ls r e below about)
    ∙ h w word

pub denial_more : (rs ss : List Regex) (ts us : List (AtomOver ℕ)) (x : ℕ) (clause : List Lit) → regex.Extends rs ss
    → Extends ts us → HaveRegexesBelow (length rs) ts → IsDenial rs ts x clause → IsDenial ss us x clause
denial_more rs ss ts us x clause r e below d = record {
  about = all_about_more ts us x clause e d.about;
  clash = clash_more rs ss ts us x (map negation clause) r e below (negations_about ts x clause d.about) d.clash;
  some = d.some;
  ascend = d.ascend;
}

-- Regexes that may be expanded.

pub of_denial_more : (rs ss : List Regex) (ts us : List (AtomOver ℕ)) (n : ℕ) → regex.Extends rs ss → Extends ts us
    → HaveRegexesBelow (length ss) us → IsOfDenial rs ts n → IsOfDenial ss us n
of_denial_more rs ss ts us n r e below d = record {
  regexes = below;
  constant = d.constant;
  clause = d.clause;
  denial = denial_more rs ss ts us d.constant d.clause r e d.regexes d.denial;
  reached = subst (λ (s : Regex). IsReached ss s n)
      (sym (ap mkand (all_asked_more rs ss ts us d.constant (map negation d.clause) r e d.regexes
      (negations_about ts d.constant d.clause d.denial.about))))
      (reached_grows rs ss (denied_by rs ts d.clause) n r d.reached);
}

pub of_membership_more : (rs ss : List Regex) (ts us : List (AtomOver ℕ)) (n : ℕ) → regex.Extends rs ss → Extends ts us
    → IsOfMembership rs ts n → IsOfMembership ss us n
of_membership_more rs ss ts us n r e h = record {
  number = h.number;
  pieces = h.pieces;
  regex = h.regex;
  names = names_more ts us h.number (in_atom h.pieces h.regex) e h.names;
  below = omega (arith, h.below, long_kept rs ss r);
  reached = subst (λ (s : Regex). IsReached ss s n) (sym (at_kept rs ss h.regex r h.below))
      (reached_grows rs ss (regex_at rs h.regex) n r h.reached);
}

pub relevant_none : (rs : List Regex) (ts : List (AtomOver ℕ)) (t u : Traced) → u ≡ t → ExpandsRelevant rs ts t u
relevant_none rs ts t u same = λ n h. inl (subst (λ (v : Traced). is_expanded_in v n ≡ true) same h)

pub relevant_both : (rs ss : List Regex) (ts us : List (AtomOver ℕ)) (t u v : Traced) → regex.Extends rs ss
    → Extends ts us → HaveRegexesBelow (length ss) us → ExpandsRelevant rs ts t u → ExpandsRelevant ss us u v
    → ExpandsRelevant ss us t v
relevant_both rs ss ts us t u v r e below p q = λ n h. elim (q n h) [
  | inl between ↦ elim (p n between) [
    | inl before ↦ inl before
    | inr first ↦ inr (elim first [
      | inl denial ↦ inl (of_denial_more rs ss ts us n r e below denial)
      | inr membership ↦ inr (of_membership_more rs ss ts us n r e membership)
    ])
  ]
  | inr later ↦ inr later
]
