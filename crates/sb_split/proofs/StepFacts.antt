-- The clause of a step: it is that of the literal of an atom by its number, and rule step accepts it.
use Rattle.std.specs.Prelude.{IsSomeAnd}
use Rattle.std.proofs.lemmas.Option.{none-some}
use Rattle.sb_facts.proofs.CallerLemmas.{some-none}
use Rattle.sb_regex.specs.Numbered as regex
use Rattle.sb_split.proofs.Words.{Bool, List, None, Option, Some, [], ap, ap₂, false, false≢true, get_or, length, length-map, not, option_map, refl, same_Some, slice_get, slice_get-get_or, slice_get-map, slice_get_within, subst, sym, true, ℕ, ◌++◌, ◌<◌, ◌∙◌, ◌∷◌, ◌≡◌, Adds, Atom, AtomOver, IsConstantStep, IsEndStep, IsMember, IsPath, IsSetOf, IsStep, IsStepAt, IsStepInOrder, IsStepOf, IsStepOver, IsWordStep, Lit, Names, Piece, Regex, Sort, Step, and_atom, at_kept, atoms_in, bool_atom, constant_piece, denied, iff_atom, in_atom, in_order, is_whole, le_atom, minus, mkpath, names_at, nd_along, negation, nullable, number_kept, of_constant, of_not_nullable, of_nullable, of_sign, of_word, over, plus, regex_at, sum_atom, word_piece}
use Rattle.sb_split.proofs.AddedFacts.{names_more}
use Rattle.sb_split.proofs.CoverFacts.{path_later}
use Rattle.sb_split.proofs.OrderFacts.{ascend_ordered, set_ordered, some_ordered}

-- a step that is given, and what is so of it
pub given_more : (P Q : Step → Type 0) (answer : Option Step) → ((step : Step) → P step → Q step) → IsSomeAnd answer P
    → IsSomeAnd answer Q
given_more P Q None f h = h
given_more P Q (Some step) f h = f step h

-- an atom over an arena
pub named_over : (rs : List Regex) (atoms : List (AtomOver ℕ)) (i : ℕ) (a : AtomOver ℕ) → Names atoms i a
    → slice_get (atoms_in rs atoms) i ≡ Some (over rs a)
named_over rs atoms i a h = slice_get-map (over rs) atoms i ∙ ap (option_map (over rs)) h

-- What holds of an atom and of the number that it has.

pub step_at : (rs : List Regex) (atoms : List (AtomOver ℕ)) (q : ℕ) (l : Lit) (whole : AtomOver ℕ)
    (answer : Option Step) → Names atoms l.atom whole
    → IsStepOf (atoms_in rs atoms) l (regex_at rs q) (over rs whole) answer → IsStepAt rs atoms q l answer
step_at rs atoms q l whole answer names h = λ atom other.
    subst (λ b. IsStepOf (atoms_in rs atoms) l (regex_at rs q) (over rs b) answer)
    (same_Some whole atom (sym names ∙ other)) h

none_of : (atoms : List Atom) (l : Lit) (q : Regex) (rs : List Regex) (whole : AtomOver ℕ) → is_whole whole ≡ true
    → IsStepOf atoms l q (over rs whole) None
none_of atoms l q rs (in_atom [] r) h = absurd (false≢true h)
none_of atoms l q rs (in_atom (word_piece w ∷ ps) r) h = absurd (false≢true h)
none_of atoms l q rs (in_atom (constant_piece x ∷ p ∷ ps) r) h = absurd (false≢true h)
none_of atoms l q rs (in_atom (constant_piece x ∷ []) r) h = refl
none_of atoms l q rs (bool_atom serial) h = refl
none_of atoms l q rs (le_atom x k) h = refl
none_of atoms l q rs (sum_atom k ss) h = refl
none_of atoms l q rs (and_atom ls) h = refl
none_of atoms l q rs (iff_atom k m) h = refl

pub none_at : (rs : List Regex) (atoms : List (AtomOver ℕ)) (q : ℕ) (l : Lit) (whole : AtomOver ℕ)
    → Names atoms l.atom whole → is_whole whole ≡ true → IsStepAt rs atoms q l None
none_at rs atoms q l whole names h =
    step_at rs atoms q l whole None names (none_of (atoms_in rs atoms) l (regex_at rs q) rs whole h)

-- The step of each shape, in a table and an arena that grew.

pub end_at : (rs : List Regex) (atoms : List (AtomOver ℕ)) (q : ℕ) (l : Lit) (r : ℕ) (answer : Option Step)
    → Names atoms l.atom (in_atom [] r) → IsSomeAnd answer (IsEndStep l.atom (regex_at rs r))
    → IsStepAt rs atoms q l answer
end_at rs atoms q l r answer names h = step_at rs atoms q l (in_atom [] r) answer names h

pub word_at : (given : List Sort → Bool) (rs ss : List Regex) (old new : List (AtomOver ℕ)) (q : ℕ) (l : Lit)
    (w : List ℕ) (ps : List Piece) (r : ℕ) (answer : Option Step) → Adds given rs ss old new
    → Names old l.atom (in_atom (word_piece w ∷ ps) r) → r < length rs
    → IsSomeAnd answer (IsWordStep (atoms_in ss new) l (in_atom ps (nd_along (regex_at rs r) w)))
    → IsStepAt ss new q l answer
word_at given rs ss old new q l w ps r answer e names low h =
    step_at ss new q l (in_atom (word_piece w ∷ ps) r) answer
    (names_more old new l.atom (in_atom (word_piece w ∷ ps) r) e.atoms names)
    (subst (λ (s : Regex). IsSomeAnd answer (IsWordStep (atoms_in ss new) l (in_atom ps (nd_along s w))))
    (sym (at_kept rs ss r e.arena low)) h)

pub constant_at : (given : List Sort → Bool) (rs ss : List Regex) (old new : List (AtomOver ℕ)) (q : ℕ) (l : Lit)
    (x : ℕ) (all : List Piece) (p : Piece) (ps : List Piece) (r : ℕ) (answer : Option Step) → Adds given rs ss old new
    → all ≡ p ∷ ps → Names old l.atom (in_atom (constant_piece x ∷ all) r) → r < length rs → q < length rs
    → IsSomeAnd answer (IsConstantStep (atoms_in ss new) l
    (in_atom (constant_piece x ∷ []) (mkpath (regex_at rs r) (regex_at rs q))) (in_atom all (regex_at rs q)))
    → IsStepAt ss new q l answer
constant_at given rs ss old new q l x all p ps r answer e more names low between h =
    step_at ss new q l (in_atom (constant_piece x ∷ p ∷ ps) r) answer
    (names_more old new l.atom (in_atom (constant_piece x ∷ p ∷ ps) r) e.atoms
    (subst (λ qs. Names old l.atom (in_atom (constant_piece x ∷ qs) r)) more names))
    (subst (λ (s : Regex). IsSomeAnd answer (IsConstantStep (atoms_in ss new) l
    (in_atom (constant_piece x ∷ []) (mkpath s (regex_at ss q))) (in_atom (p ∷ ps) (regex_at ss q))))
    (sym (at_kept rs ss r e.arena low))
    (subst (λ (t : Regex). IsSomeAnd answer (IsConstantStep (atoms_in ss new) l
    (in_atom (constant_piece x ∷ []) (mkpath (regex_at rs r) t)) (in_atom (p ∷ ps) t)))
    (sym (at_kept rs ss q e.arena between))
    (subst (λ qs. IsSomeAnd answer (IsConstantStep (atoms_in ss new) l
    (in_atom (constant_piece x ∷ []) (mkpath (regex_at rs r) (regex_at rs q))) (in_atom qs (regex_at rs q)))) more h)))

-- The step, made of the literals of atoms that are added.

pub end_is : (a : ℕ) (r : Regex) (truth : Lit) (step : Step) → truth ≡ of_sign (nullable r) a
    → IsStepOver (truth ∷ []) None None step → IsEndStep a r step
end_is a r truth step is h = record {
  lead = h.lead;
  rest = h.rest;
  clause = h.clause ∙ ap (λ l. l ∷ []) is;
}

pub word_is : (rs : List Regex) (atoms : List (AtomOver ℕ)) (l : Lit) (n : ℕ) (ps : List Piece) (s : Regex)
    (behind refused rest : Lit) (step : Step) → IsMember atoms (in_atom ps n) behind → regex.Names rs n s
    → refused ≡ negation l → rest ≡ of_sign l.positive behind.atom
    → IsStepOver (refused ∷ rest ∷ []) None (Some rest) step → IsWordStep (atoms_in rs atoms) l (in_atom ps s) step
word_is rs atoms l n ps s behind refused rest step member names no_more signed h = record {
  c = behind.atom;
  there = named_over rs atoms behind.atom (in_atom ps n) member.names
      ∙ ap (λ t. Some (in_atom ps t)) (names_at rs n s names);
  lead = h.lead;
  rest = h.rest ∙ ap Some signed;
  clause = h.clause ∙ ap₂ (λ k m. in_order (k ∷ m ∷ [])) no_more signed;
}

pub constant_is : (rs : List Regex) (atoms : List (AtomOver ℕ)) (l : Lit) (x r q : ℕ) (ps : List Piece)
    (lead behind unless refused rest : Lit) (step : Step) → IsPath rs atoms x r q lead
    → IsMember atoms (in_atom ps q) behind → unless ≡ negation lead → refused ≡ negation l
    → rest ≡ of_sign l.positive behind.atom
    → IsStepOver (unless ∷ refused ∷ rest ∷ []) (Some lead) (Some rest) step
    → IsConstantStep (atoms_in rs atoms) l (in_atom (constant_piece x ∷ []) (mkpath (regex_at rs r) (regex_at rs q)))
    (in_atom ps (regex_at rs q)) step
constant_is rs atoms l x r q ps lead behind unless refused rest step path member turned no_more signed h = record {
  b = lead.atom;
  c = behind.atom;
  leads = named_over rs atoms lead.atom (in_atom (constant_piece x ∷ []) path.number) path.names
      ∙ ap (λ t. Some (in_atom (constant_piece x ∷ []) t))
      (names_at rs path.number (mkpath (regex_at rs r) (regex_at rs q)) path.path);
  there = named_over rs atoms behind.atom (in_atom ps q) member.names;
  lead = h.lead ∙ ap (λ b. Some (of_sign b lead.atom)) path.positive;
  rest = h.rest ∙ ap Some signed;
  clause = h.clause
      ∙ ap (λ k. in_order (k ∷ refused ∷ rest ∷ [])) (turned ∙ ap (λ b. of_sign (not b) lead.atom) path.positive)
      ∙ ap₂ (λ k m. in_order (minus lead.atom ∷ k ∷ m ∷ [])) no_more signed;
}

-- so where the arena grew before, and the table behind the path
pub constant_later : (given : List Sort → Bool) (rs ss : List Regex) (mid new : List (AtomOver ℕ)) (l : Lit)
    (x r q : ℕ) (ps : List Piece) (lead behind unless refused rest : Lit) (step : Step) → regex.Extends rs ss
    → r < length rs → q < length rs → Adds given ss ss mid new → IsPath ss mid x r q lead
    → IsMember new (in_atom ps q) behind → unless ≡ negation lead → refused ≡ negation l
    → rest ≡ of_sign l.positive behind.atom
    → IsStepOver (unless ∷ refused ∷ rest ∷ []) (Some lead) (Some rest) step
    → IsConstantStep (atoms_in ss new) l (in_atom (constant_piece x ∷ []) (mkpath (regex_at rs r) (regex_at rs q)))
    (in_atom ps (regex_at rs q)) step
constant_later given rs ss mid new l x r q ps lead behind unless refused rest step e from to added path member turned
    no_more signed h =
    subst (λ (s : Regex). IsConstantStep (atoms_in ss new) l
    (in_atom (constant_piece x ∷ []) (mkpath s (regex_at rs q))) (in_atom ps (regex_at rs q)) step)
    (at_kept rs ss r e from)
    (subst (λ (t : Regex). IsConstantStep (atoms_in ss new) l
    (in_atom (constant_piece x ∷ []) (mkpath (regex_at ss r) t)) (in_atom ps t) step) (at_kept rs ss q e to)
    (constant_is ss new l x r q ps lead behind unless refused rest step
    (path_later given ss ss mid new x r q lead added (number_kept rs ss r e from) (number_kept rs ss q e to) path)
    member turned no_more signed h))

-- Rule step accepts the clause.

end_in : (atoms : List Atom) (a : ℕ) (r : Regex) → slice_get atoms a ≡ Some (in_atom [] r) → (b : Bool)
    → nullable r ≡ b → IsStep atoms (in_order (of_sign b a ∷ []))
end_in atoms a r there true is = of_nullable a r there is (set_ordered (plus a ∷ []))
end_in atoms a r there false is = of_not_nullable a r there is (set_ordered (minus a ∷ []))

word_in : (atoms : List Atom) (a c : ℕ) (w : List ℕ) (ps : List Piece) (r : Regex) (b : Bool)
    → slice_get atoms a ≡ Some (in_atom (word_piece w ∷ ps) r) → slice_get atoms c ≡ Some (in_atom ps (nd_along r w))
    → IsStep atoms (in_order (of_sign (not b) a ∷ of_sign b c ∷ []))
word_in atoms a c w ps r true first second =
    of_word a c w ps r false first second (set_ordered (minus a ∷ plus c ∷ []))
word_in atoms a c w ps r false first second =
    of_word a c w ps r true first second (set_ordered (plus a ∷ minus c ∷ []))

constant_in : (atoms : List Atom) (a b c x : ℕ) (ps : List Piece) (r q : Regex) (s : Bool)
    → slice_get atoms a ≡ Some (in_atom (constant_piece x ∷ ps) r)
    → slice_get atoms b ≡ Some (in_atom (constant_piece x ∷ []) (mkpath r q)) → slice_get atoms c ≡ Some (in_atom ps q)
    → IsStep atoms (in_order (minus b ∷ of_sign (not s) a ∷ of_sign s c ∷ []))
constant_in atoms a b c x ps r q true first between second =
    of_constant a b c x ps r q false first between second (set_ordered (minus b ∷ minus a ∷ plus c ∷ []))
constant_in atoms a b c x ps r q false first between second =
    of_constant a b c x ps r q true first between second (set_ordered (minus b ∷ plus a ∷ minus c ∷ []))

ordered_in : (atoms : List Atom) (l : Lit) (ls clause : List Lit) → IsStep atoms (in_order (l ∷ ls))
    → clause ≡ in_order (l ∷ ls) → IsStepInOrder atoms clause
ordered_in atoms l ls clause h is = subst (IsStepInOrder atoms) (sym is) (record {
  step = h;
  ascend = ascend_ordered (l ∷ ls);
  some = some_ordered l ls;
})

pub step_in : (atoms : List Atom) (l : Lit) (q : Regex) (whole : Atom) (step : Step)
    → slice_get atoms l.atom ≡ Some whole → IsStepOf atoms l q whole (Some step) → IsStepInOrder atoms step.clause
step_in atoms l q (in_atom [] r) step there h =
    ordered_in atoms (of_sign (nullable r) l.atom) [] step.clause (end_in atoms l.atom r there (nullable r) refl)
    h.clause
step_in atoms l q (in_atom (word_piece w ∷ ps) r) step there h =
    ordered_in atoms (negation l) (of_sign l.positive h.c ∷ []) step.clause
    (word_in atoms l.atom h.c w ps r l.positive there h.there) h.clause
step_in atoms l q (in_atom (constant_piece x ∷ p ∷ ps) r) step there h =
    ordered_in atoms (minus h.b) (negation l ∷ of_sign l.positive h.c ∷ []) step.clause
    (constant_in atoms l.atom h.b h.c x (p ∷ ps) r q l.positive there h.leads h.there) h.clause
step_in atoms l q (in_atom (constant_piece x ∷ []) r) step there h = absurd (some-none step h)
step_in atoms l q (bool_atom serial) step there h = absurd (some-none step h)
step_in atoms l q (le_atom x k) step there h = absurd (some-none step h)
step_in atoms l q (sum_atom k ss) step there h = absurd (some-none step h)
step_in atoms l q (and_atom ls) step there h = absurd (some-none step h)
step_in atoms l q (iff_atom k m) step there h = absurd (some-none step h)

-- What is known of the literals of what is left, and of where a constant leads.

-- The literal of what is left is of the table, with the sign of the literal of the whole; and rule step accepts the
-- other clause of these literals, in any order.
pub record IsRest (atoms : List Atom) (l rest : Lit) (step : Step) : Type 0 where
  pub known : rest.atom < length atoms
  pub sign : rest.positive ≡ l.positive
  pub clause : step.clause ≡ in_order (denied step.lead ++ negation l ∷ rest ∷ [])
  pub other : (clause : List Lit) → IsSetOf clause (denied step.lead ++ l ∷ negation rest ∷ []) → IsStep atoms clause

rest_of : (atoms : List Atom) (l rest m : Lit) (lead : Option Lit) (step : Step) → m.atom < length atoms
    → m.positive ≡ l.positive → step.lead ≡ lead → rest ≡ m
    → step.clause ≡ in_order (denied lead ++ negation l ∷ m ∷ [])
    → ((clause : List Lit) → IsSetOf clause (denied lead ++ l ∷ negation m ∷ []) → IsStep atoms clause)
    → IsRest atoms l rest step
rest_of atoms l rest m lead step known sign led same clause other = record {
  known = subst (λ k. k.atom < length atoms) (sym same) known;
  sign = ap (λ k. k.positive) same ∙ sign;
  clause = clause ∙ sym (ap₂ (λ o k. in_order (denied o ++ negation l ∷ k ∷ [])) led same);
  other = λ twin set.
      other twin (subst (IsSetOf twin) (ap₂ (λ o k. denied o ++ l ∷ negation k ∷ []) led same) set);
}

pub rest_in : (atoms : List Atom) (l rest : Lit) (q : Regex) (whole : Atom) (step : Step)
    → slice_get atoms l.atom ≡ Some whole → IsStepOf atoms l q whole (Some step) → step.rest ≡ Some rest
    → IsRest atoms l rest step
rest_in atoms l rest q (in_atom [] r) step there h is = absurd (none-some rest (sym h.rest ∙ is))
rest_in atoms l rest q (in_atom (word_piece w ∷ ps) r) step there h is =
    rest_of atoms l rest (of_sign l.positive h.c) None step
    (slice_get_within atoms h.c (in_atom ps (nd_along r w)) h.there) refl h.lead
    (same_Some rest (of_sign l.positive h.c) (sym is ∙ h.rest)) h.clause
    (λ twin set. of_word l.atom h.c w ps r l.positive there h.there set)
rest_in atoms l rest q (in_atom (constant_piece x ∷ p ∷ ps) r) step there h is =
    rest_of atoms l rest (of_sign l.positive h.c) (Some (plus h.b)) step
    (slice_get_within atoms h.c (in_atom (p ∷ ps) q) h.there) refl h.lead
    (same_Some rest (of_sign l.positive h.c) (sym is ∙ h.rest)) h.clause
    (λ twin set. of_constant l.atom h.b h.c x (p ∷ ps) r q l.positive there h.leads h.there set)
rest_in atoms l rest q (in_atom (constant_piece x ∷ []) r) step there h is = absurd (some-none step h)
rest_in atoms l rest q (bool_atom serial) step there h is = absurd (some-none step h)
rest_in atoms l rest q (le_atom x k) step there h is = absurd (some-none step h)
rest_in atoms l rest q (sum_atom k ss) step there h is = absurd (some-none step h)
rest_in atoms l rest q (and_atom ls) step there h is = absurd (some-none step h)
rest_in atoms l rest q (iff_atom k m) step there h is = absurd (some-none step h)

-- the literal of where the constant leads is positive, of the table, and stands in front of what is left
pub record IsLead (atoms : List Atom) (lead : Lit) : Type 0 where
  pub known : lead.atom < length atoms
  pub positive : lead.positive ≡ true

pub lead_in : (atoms : List Atom) (l lead : Lit) (q : Regex) (whole : Atom) (step : Step)
    → IsStepOf atoms l q whole (Some step) → step.lead ≡ Some lead → IsLead atoms lead
lead_in atoms l lead q (in_atom [] r) step h is = absurd (none-some lead (sym h.lead ∙ is))
lead_in atoms l lead q (in_atom (word_piece w ∷ ps) r) step h is = absurd (none-some lead (sym h.lead ∙ is))
lead_in atoms l lead q (in_atom (constant_piece x ∷ p ∷ ps) r) step h is =
    subst (IsLead atoms) (same_Some (plus h.b) lead (sym h.lead ∙ is)) (record {
      known = slice_get_within atoms h.b (in_atom (constant_piece x ∷ []) (mkpath r q)) h.leads;
      positive = refl;
    })
lead_in atoms l lead q (in_atom (constant_piece x ∷ []) r) step h is = absurd (some-none step h)
lead_in atoms l lead q (bool_atom serial) step h is = absurd (some-none step h)
lead_in atoms l lead q (le_atom x k) step h is = absurd (some-none step h)
lead_in atoms l lead q (sum_atom k ss) step h is = absurd (some-none step h)
lead_in atoms l lead q (and_atom ls) step h is = absurd (some-none step h)
lead_in atoms l lead q (iff_atom k m) step h is = absurd (some-none step h)

-- The same of the step that is given of a literal.

-- the atom of a number below the length
pub named_at : (atoms : List (AtomOver ℕ)) (i : ℕ) → i < length atoms → Names atoms i (get_or atoms i (bool_atom 0))
named_at atoms i low = slice_get-get_or atoms i (bool_atom 0) low

-- rule step accepts the clause that is given of a literal, its literals ascend, and it has some
pub step_is : (rs : List Regex) (atoms : List (AtomOver ℕ)) (q : ℕ) (l : Lit) (whole : AtomOver ℕ) (step : Step)
    → Names atoms l.atom whole → IsStepAt rs atoms q l (Some step) → IsStepInOrder (atoms_in rs atoms) step.clause
step_is rs atoms q l whole step names h =
    step_in (atoms_in rs atoms) l (regex_at rs q) (over rs whole) step (named_over rs atoms l.atom whole names)
    (h whole names)

-- what is known of the literal of what is left,
pub step_rest : (rs : List Regex) (atoms : List (AtomOver ℕ)) (q : ℕ) (l rest : Lit) (whole : AtomOver ℕ)
    (step : Step) → Names atoms l.atom whole → IsStepAt rs atoms q l (Some step) → step.rest ≡ Some rest
    → IsRest (atoms_in rs atoms) l rest step
step_rest rs atoms q l rest whole step names h is =
    rest_in (atoms_in rs atoms) l rest (regex_at rs q) (over rs whole) step (named_over rs atoms l.atom whole names)
    (h whole names) is

pub rest_known : (rs : List Regex) (atoms : List (AtomOver ℕ)) (q : ℕ) (l rest : Lit) (whole : AtomOver ℕ)
    (step : Step) → Names atoms l.atom whole → IsStepAt rs atoms q l (Some step) → step.rest ≡ Some rest
    → rest.atom < length atoms
rest_known rs atoms q l rest whole step names h is =
    subst (λ n. rest.atom < n) (length-map atoms (over rs)) (step_rest rs atoms q l rest whole step names h is).known

-- so that rule step accepts the other clause,
pub step_other : (rs : List Regex) (atoms : List (AtomOver ℕ)) (q : ℕ) (l rest : Lit) (whole : AtomOver ℕ)
    (step : Step) → Names atoms l.atom whole → IsStepAt rs atoms q l (Some step) → step.rest ≡ Some rest
    → IsStep (atoms_in rs atoms) (in_order (denied step.lead ++ l ∷ negation rest ∷ []))
step_other rs atoms q l rest whole step names h is =
    (step_rest rs atoms q l rest whole step names h is).other (in_order (denied step.lead ++ l ∷ negation rest ∷ []))
    (set_ordered (denied step.lead ++ l ∷ negation rest ∷ []))

-- and of the literal of where a constant leads
pub step_lead : (rs : List Regex) (atoms : List (AtomOver ℕ)) (q : ℕ) (l lead : Lit) (whole : AtomOver ℕ)
    (step : Step) → Names atoms l.atom whole → IsStepAt rs atoms q l (Some step) → step.lead ≡ Some lead
    → IsLead (atoms_in rs atoms) lead
step_lead rs atoms q l lead whole step names h is =
    lead_in (atoms_in rs atoms) l lead (regex_at rs q) (over rs whole) step (h whole names) is

pub lead_known : (rs : List Regex) (atoms : List (AtomOver ℕ)) (q : ℕ) (l lead : Lit) (whole : AtomOver ℕ)
    (step : Step) → Names atoms l.atom whole → IsStepAt rs atoms q l (Some step) → step.lead ≡ Some lead
    → lead.atom < length atoms
lead_known rs atoms q l lead whole step names h is =
    subst (λ n. lead.atom < n) (length-map atoms (over rs)) (step_lead rs atoms q l lead whole step names h is).known
