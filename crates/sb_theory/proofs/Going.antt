-- One step of a walk behind the other.
use Rattle.std.proofs.Common.{◌≡◌, ℕ, ◌<◌, ◌≤◌, Bool, true, false, not, List, [], ◌∷◌, length, count_by, Option, Some, None, refl, sym, ap, ap₂, subst, ◌∙◌, arith}
use Rattle.std.proofs.lemmas.Bool.{false≢true, ltb-true}
use Rattle.sb_lit.specs.Budgets.{Spending}
use Rattle.sb_regex.proofs.CallerLemmas.{at_kept, number_kept}
use Rattle.sb_trace.proofs.CallerLemmas.{spent_both, spent_none}
use Rattle.sb_trace.specs.Putting.{SpendsWithin}
use Rattle.sb_split.specs.Steps.{IsStepAt, IsStepOf}
use Rattle.sb_split.specs.declared.stepping.Step.{Step}
use Rattle.sb_theory.specs.Memberships.{is_atom, is_joined, is_joined_atom, is_true_by, word_at}
use Rattle.sb_theory.specs.Strings.{Grows, Holds, IsSofar, IsWrong, Keeps, Stands}
use Rattle.sb_theory.specs.Walks.{IsBetween, IsEnd, IsNotable, IsWalked, IsWeighed, Notes, Rows, Widens, pieces_at, pieces_of, rows_of, unnoted}
use Rattle.sb_theory.specs.Wanted.{is_wanted}
use Rattle.sb_theory.specs.Wishes.{IsLeft}
use Rattle.sb_theory.specs.Words.{Assigned, Atom, AtomOver, HaveRegexesBelow, Lit, Names, Piece, Regex, atoms_in, constant_piece, held, in_atom, nd_along, regex_at, word_piece}
use Rattle.sb_theory.specs.declared.strings.Strings.{Strings}
use Rattle.sb_theory.specs.declared.strings.walking.Walked.{Walked}
use Rattle.sb_theory.specs.declared.strings.walking.Walked.TheVariants as walked
use Rattle.sb_theory.proofs.Moving.{grows_both, holds_moved, keeps_both, keeps_none, left_kept, stands_looked, wanted_stays}
use Rattle.sb_theory.proofs.Tables.{joined_same, slice_same, true_by_same, wanted_known}
use Rattle.sb_lang.specs.ConstructorLaws.{MkpathKeepsLanguage}
use Rattle.sb_lang.specs.DerivativeLaws.{DerivativeAlongHasRests, NullableHasEmptyWord}
use Rattle.sb_lang.specs.OrderLaws.{OrderTellsApart}
use Rattle.sb_theory.proofs.Walking.{IsRightLead, IsTold, IsWrongRest, is_known, several, told}
use Rattle.sb_theory.proofs.Wishes.{left_grown, tails_same}
use Rattle.sb_theory.proofs.Writing.{sofar_both, sofar_kept, sofar_none, widens_both}

-- What is wrong stays so where tables grow, and rows and words stay.

pub wrong_known : {x : Strings} {entries : List Assigned} (l : Lit) → IsWrong x entries l
    → is_atom x.atoms l.atom ≡ true
wrong_known {x} l h = let s = several x.atoms l.atom h.joined in is_known x.atoms l.atom (in_atom s.pieces s.number)
    s.names

wrong_over : {x y : Strings} {entries : List Assigned} (l : Lit) → HaveRegexesBelow (length x.store.arena) x.atoms
    → Grows x y → rows_of y ≡ rows_of x → (IsLeft x l.atom → IsLeft y l.atom) → IsWrong x entries l
    → IsWrong y entries l
wrong_over {x} {y} {entries} l below g rows left h =
    let known = wrong_known l h in record {
      held = h.held;
      left = left h.left;
      joined = joined_same l.atom g.table.extends known ∙ h.joined;
      wrong = ap (λ (r : Rows). is_true_by y.store.arena y.atoms r.words l) rows
          ∙ true_by_same x.words.items l g.store.more.extends g.table.extends below known ∙ h.wrong;
    }

left_widened : {x y : Strings} {entries : List Assigned} {before after : Spending} {old new : Option (List ℕ)} (a : ℕ)
    → Holds x → Widens x y entries before after old new → IsLeft x a → IsLeft y a
left_widened {x} {y} a h w =
    left_grown x y a (tails_same x y (wanted_stays w.grows) w.grows.table.extends (wanted_known h)) w.bases
    w.grows.store.more.extends w.grows.table.extends h.regexes

pub wrong_widened : {x y : Strings} {entries : List Assigned} {before after : Spending} {old new : Option (List ℕ)}
    (l : Lit) → Holds x → Widens x y entries before after old new → IsWrong x entries l → IsWrong y entries l
wrong_widened l h w = wrong_over l h.regexes w.grows w.rows (left_widened l.atom h w)

pub wrong_kept : {x y : Strings} {entries : List Assigned} (l : Lit) → Holds x → Keeps x y → rows_of y ≡ rows_of x
    → IsWrong x entries l → IsWrong y entries l
wrong_kept l h k rows = wrong_over l h.regexes k.grows rows (left_kept k l.atom)

-- So does where the constant leads.

pub between_widened : {x y : Strings} {entries : List Assigned} {before after : Spending} {old new : Option (List ℕ)}
    (l : Lit) (q : ℕ) → Holds x → is_atom x.atoms l.atom ≡ true → Widens x y entries before after old new
    → IsBetween x l q → IsBetween y l q
between_widened {x} {y} l q h known w b =
    let e = w.grows.store.more.extends in
    let rs = x.store.arena in
    let ss = y.store.arena in record {
      below = number_kept rs ss q e b.below;
      leads = λ z p ps r names.
          let was = sym (slice_same l.atom w.grows.table.extends known) ∙ names in
          let led = b.leads z p ps r was in record {
            below = number_kept rs ss q e led.below;
            base = w.bases q led.base;
            is = at_kept rs ss q e led.below ∙ led.is
                ∙ ap₂ nd_along
                (sym (at_kept rs ss r e (h.regexes l.atom (in_atom (constant_piece z ∷ p ∷ ps) r) was)))
                (sym (ap (λ (rows : Rows). word_at rows.words z) w.rows));
          };
    }

pub between_known : {x y : Strings} {entries : List Assigned} {before after : Spending} {old new : Option (List ℕ)}
    (l : Lit) (q : ℕ) → Holds x → IsWrong x entries l → Widens x y entries before after old new → IsBetween x l q
    → IsBetween y l q
between_known l q h k w b = between_widened l q h (wrong_known l k) w b

pub wrong_inside : {x : Strings} {entries : List Assigned} (l : Lit) → IsWrong x entries l → l.atom < length x.atoms
wrong_inside {x} l h = ltb-true l.atom (length x.atoms) (wrong_known l h)

-- There is a step of what is wrong.

no_step_of : (atoms : List Atom) (l : Lit) (q r : Regex) (ps : List Piece) (n : ℕ)
    → is_joined_atom (in_atom ps n) ≡ true → IsStepOf atoms l q (in_atom ps r) None → ⊥
no_step_of atoms l q r [] n is h = h
no_step_of atoms l q r (word_piece w ∷ ps) n is h = h
no_step_of atoms l q r (constant_piece z ∷ []) n is h = false≢true is
no_step_of atoms l q r (constant_piece z ∷ p ∷ ps) n is h = h

pub no_step : {x : Strings} {entries : List Assigned} (l : Lit) (q : ℕ) (o : Option Step) → IsWrong x entries l
    → o ≡ None → IsStepAt x.store.arena x.atoms q l o → ⊥
no_step {x} l q o wrong none h =
    let s = several x.atoms l.atom wrong.joined in
    no_step_of (atoms_in x.store.arena x.atoms) l (regex_at x.store.arena q) (regex_at x.store.arena s.number) s.pieces
    s.number s.several
    (subst (λ (answer : Option Step). IsStepOf (atoms_in x.store.arena x.atoms) l (regex_at x.store.arena q)
    (in_atom s.pieces (regex_at x.store.arena s.number)) answer) none (h (in_atom s.pieces s.number) s.names))

-- The literals of a step may be noted.

not_several : (ts : List (AtomOver ℕ)) (i z n : ℕ) → Names ts i (in_atom (constant_piece z ∷ []) n)
    → is_joined ts i ≡ false
not_several ts i z n names =
    ap (λ (o : Option (AtomOver ℕ)). elim o as (λ _. Bool) [ None ↦ false | Some a ↦ is_joined_atom a ]) names

pub notable_lead : (x : Strings) (o : Option Lit) → ((b : Lit) → o ≡ Some b → IsRightLead x b) → IsNotable x o
notable_lead x None h = tt
notable_lead x (Some b) h =
    let lead = h b refl in (
      is_known x.atoms b.atom (in_atom (constant_piece lead.constant ∷ []) lead.number) lead.names,
      λ joined. absurd
          (false≢true (sym (not_several x.atoms b.atom lead.constant lead.number lead.names) ∙ joined)),
    )

pub notable_rest : (x : Strings) (at : Lit) (o : Option Lit) → ((m : Lit) → o ≡ Some m → IsWrongRest x at m)
    → IsNotable x o
notable_rest x at None h = tt
notable_rest x at (Some m) h =
    let rest = h m refl in
    (is_known x.atoms m.atom (in_atom rest.pieces rest.number) rest.names, λ joined. rest.left)

-- What a step of a walk comes to, behind those that widen.

unnoted_same : (x y : Strings) (entries : List Assigned) → y.noted ≡ x.noted → unnoted y entries ≡ unnoted x entries
unnoted_same x y entries same =
    ap (λ (noted : List ℕ). count_by (λ (e : Assigned). not (is_wanted noted e.literal.atom)) entries) same

-- all is spent
pub walked_spent : {x y : Strings} {entries : List Assigned} {before after : Spending} {old new : Option (List ℕ)}
    (pieces : ℕ) → Widens x y entries before after old new → after.spent ≡ after.limit
    → IsWalked x y entries pieces before after old new walked.Spent
walked_spent {x} {y} {entries} pieces w spent = record {
  sofar = w.sofar;
  fewer = let same = unnoted_same x y entries w.noted in omega (arith, same);
  end = spent;
}

-- more is noted
pub walked_noted : {x y z : Strings} {entries : List Assigned} {before after : Spending} {old new : Option (List ℕ)}
    (pieces : ℕ) → Widens x y entries before after old new → SpendsWithin before after → Notes y z entries true
    → SpendsWithin after after → IsWalked x z entries pieces before after old new walked.Noted
walked_noted {x} {y} {z} {entries} {after = after} {new = new} pieces w steps n none =
    let same = unnoted_same x y entries w.noted in record {
      sofar = sofar_both steps none w.sofar (sofar_kept after new n.keeps n.stands);
      fewer = omega (arith, same, n.fewer);
      end = omega (arith, same, n.new refl);
    }

-- the rest
pub end_weighed : (x z : Strings) (entries : List Assigned) (pieces more : ℕ) (after : Spending) (walked : Walked)
    → z.taken.items ≡ entries → z.changed ≡ [] → pieces ≡ more → IsWeighed z entries pieces walked
    → IsEnd x z entries more after walked
end_weighed x z entries pieces more after (walked.Ask l) whole settled same h = h
end_weighed x z entries pieces more after (walked.Step clause) whole settled same h = h
end_weighed x z entries pieces more after (walked.To l) whole settled same h =
    (h.0, omega (arith, h.1, same), whole, settled)
end_weighed x z entries pieces more after walked.Noted whole settled same h = absurd h
end_weighed x z entries pieces more after walked.Spent whole settled same h = absurd h

pub pieces_widened : {x y : Strings} {entries : List Assigned} (l : Lit) → IsWrong x entries l → Grows x y
    → pieces_at y l.atom ≡ pieces_at x l.atom
pieces_widened l h g = ap pieces_of (slice_same l.atom g.table.extends (wrong_known l h))

-- A walk so far.
pub record IsWalking (x y : Strings) (entries : List Assigned) (before now : Spending) (old new : Option (List ℕ))
    (was faults : ℕ) (at : Lit) : Type 0
  where
    pub sofar : IsSofar x y entries before now old new
    pub fewer : unnoted y entries ≤ unnoted x entries
    pub grows : Grows x y
    pub steps : SpendsWithin before now
    pub same : faults ≡ was
    pub wrong : IsWrong y entries at
    pub whole : y.taken.items ≡ entries
    pub settled : y.changed ≡ []

pub walking_none : {x : Strings} {entries : List Assigned} (budget : Spending) (told : Option (List ℕ)) (faults : ℕ)
    (at : Lit) → Stands x entries → IsWrong x entries at → x.taken.items ≡ entries → x.changed ≡ []
    → IsWalking x x entries budget budget told told faults faults at
walking_none {x} budget told faults at stands wrong whole settled = record {
  sofar = sofar_none budget told stands;
  fewer = omega arith;
  grows = (keeps_none stands.holds).grows;
  steps = spent_none budget;
  same = refl;
  wrong = wrong;
  whole = whole;
  settled = settled;
}

-- it goes on
pub walking_on : {x y z : Strings} {entries : List Assigned} {a b c : Spending} {old mid new : Option (List ℕ)}
    {was faults now : ℕ} {at : Lit} (next : Lit) (pieces : ℕ) → IsWalking x y entries a b old mid was faults at
    → IsWalked y z entries pieces b c mid new (walked.To next) → Grows y z → SpendsWithin b c → now ≡ faults
    → IsWalking x z entries a c old new was now next
walking_on {a = a} {b} {c} next pieces h w grows steps same = record {
  sofar = sofar_both h.steps steps h.sofar w.sofar;
  fewer = omega (arith, h.fewer, w.fewer);
  grows = grows_both h.grows grows;
  steps = spent_both a b c h.steps steps;
  same = same ∙ h.same;
  wrong = w.end.0;
  whole = w.end.2;
  settled = w.end.3;
}

-- or has come to an end
end_walked : (x y z : Strings) (entries : List Assigned) (pieces : ℕ) (after : Spending) (came : Walked)
    → ((l : Lit) → came ≡ walked.To l → ⊥) → unnoted y entries ≤ unnoted x entries
    → IsEnd y z entries pieces after came → IsEnd x z entries 0 after came
end_walked x y z entries pieces after (walked.Ask l) none fewer h = h
end_walked x y z entries pieces after (walked.Step clause) none fewer h = h
end_walked x y z entries pieces after (walked.To l) none fewer h = absurd (none l refl)
end_walked x y z entries pieces after walked.Noted none fewer h = omega (arith, fewer, h)
end_walked x y z entries pieces after walked.Spent none fewer h = h

pub walking_end : {x y z : Strings} {entries : List Assigned} {a b c : Spending} {old mid new : Option (List ℕ)}
    {was faults : ℕ} {at : Lit} (pieces : ℕ) (came : Walked) → ((l : Lit) → came ≡ walked.To l → ⊥)
    → IsWalking x y entries a b old mid was faults at → IsWalked y z entries pieces b c mid new came
    → SpendsWithin b c → IsWalked x z entries 0 a c old new came
walking_end {x} {y} {z} {entries} {c = c} pieces came none h w steps = record {
  sofar = sofar_both h.steps steps h.sofar w.sofar;
  fewer = omega (arith, h.fewer, w.fewer);
  end = end_walked x y z entries pieces c came none h.fewer w.end;
}

-- What one step weighed comes to.
pub walked_weighed : {x y z v : Strings} {entries : List Assigned} {before after : Spending} {old new : Option (List ℕ)}
    (pieces more : ℕ) (came : Walked) → Widens x y entries before after old new → SpendsWithin before after
    → Notes y z entries false → Keeps z v → rows_of v ≡ rows_of z → v.noted ≡ z.noted → z.taken.items ≡ entries
    → z.changed ≡ [] → pieces ≡ more → IsWeighed v entries pieces came
    → IsWalked x v entries more before after old new came
walked_weighed {x} {y} {z} {v} {entries} {after = after} {new = new} pieces more came w steps n k rows noted whole
    settled same end =
    let taken : v.taken.items ≡ z.taken.items = ap (λ (r : Rows). r.entries) rows in
    let stands = stands_looked (holds_moved k rows noted n.stands.holds) taken n.stands in
    let first = unnoted_same x y entries w.noted in
    let last = unnoted_same z v entries noted in record {
      sofar = sofar_both steps (spent_none after) w.sofar (sofar_kept after new (keeps_both n.keeps k) stands);
      fewer = omega (arith, first, last, n.fewer);
      end = end_weighed x v entries pieces more after came (taken ∙ whole)
          (ap (λ (r : Rows). r.changed) rows ∙ settled) same end;
    }

-- What is asked for a step to be weighed, where its atoms were noted.
pub record IsReady (z : Strings) (entries : List Assigned) (at : Lit) (q : ℕ) (given : Step) : Type 0 where
  pub whole : z.taken.items ≡ entries
  pub settled : z.changed ≡ []
  pub wrong : IsWrong z entries at
  pub between : IsBetween z at q
  pub step : IsStepAt z.store.arena z.atoms q at (Some given)

pub ready : {x y z : Strings} {entries : List Assigned} {before after : Spending} {old new : Option (List ℕ)} (at : Lit)
    (q : ℕ) (step : Step) → x.taken.items ≡ entries → x.changed ≡ [] → Widens x y entries before after old new
    → IsWrong y entries at → IsBetween y at q → IsStepAt y.store.arena y.atoms q at (Some step)
    → Notes y z entries false → IsReady z entries at q step
ready {x} {y} {z} {entries} at q step whole settled w wrong between is n =
    let same = n.same refl in record {
      whole = ap (λ (s : Strings). s.taken.items) same ∙ ap (λ (r : Rows). r.entries) w.rows ∙ whole;
      settled = ap (λ (s : Strings). s.changed) same ∙ ap (λ (r : Rows). r.changed) w.rows ∙ settled;
      wrong = wrong_kept at w.sofar.stands.holds n.keeps (ap rows_of same) wrong;
      between = subst (λ (s : Strings). IsBetween s at q) (sym same) (record {
        below = between.below;
        leads = λ u p ps r names.
            let led = between.leads u p ps r names in record { below = led.below; base = led.base; is = led.is };
      });
      step = subst (λ (s : Strings). IsStepAt s.store.arena s.atoms q at (Some step)) (sym same) is;
    }

-- What is known once the step is there.
pub record IsStepped (x z : Strings) (entries : List Assigned) (before after : Spending) (old new : Option (List ℕ))
    (at : Lit) (q : ℕ) (given : Step) : Type 0
  where
    pub widens : Widens x z entries before after old new
    pub wrong : IsWrong z entries at
    pub between : IsBetween z at q
    pub step : IsStepAt z.store.arena z.atoms q at (Some given)
    pub told : IsTold z (held entries) at given

pub stepped : NullableHasEmptyWord → DerivativeAlongHasRests → MkpathKeepsLanguage → OrderTellsApart → {x y z : Strings}
    {entries : List Assigned} {a b : Spending} {old mid new : Option (List ℕ)} (at : Lit) (q : ℕ) (given : Step)
    → Stands x entries → IsWrong x entries at → Widens x y entries a b old mid → SpendsWithin a b → IsBetween y at q
    → Widens y z entries b b mid new → IsStepAt z.store.arena z.atoms q at (Some given)
    → IsStepped x z entries a b old new at q given
stepped nullables along keeps apart {x} {y} {z} {entries} {b = b} at q given stands wrong first steps between second
    is =
    let early = wrong_widened at stands.holds first wrong in
    let late = wrong_widened at first.sofar.stands.holds second early in
    let led = between_known at q first.sofar.stands.holds early second between in record {
      widens = widens_both steps (spent_none b) first second;
      wrong = late;
      between = led;
      step = is;
      told = told nullables along keeps apart z entries at q given late led is;
    }
