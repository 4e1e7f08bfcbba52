use Rattle.sb_theory.proofs.Words.{[], ◌∙◌, ◌∷◌, ◌≡◌, List, ap, append-nil, arith, length, refl, subst, sym, AreMembers, Assigned, Lit, length-append, regexes_same, wanted_of, wanted_on}
use Rattle.sb_theory.proofs.Fitting.{rows_cut}
use Rattle.sb_theory.proofs.Moving.{holds_moved, keeps_both, keeps_grown, keeps_none, left_kept}
use Rattle.sb_theory.proofs.Rows.{wanted_push}
use Rattle.std.proofs.lemmas.List.{nil_from_length}
use Rattle.sb_theory.specs.Walks.{Rows}
use Rattle.sb_theory.proofs.strings.Strings.take_back.Goals as goal

pub loop-entry-init : goal.loop-entry-init
loop-entry-init c = record { holds = c.requires; keeps = keeps_none c.requires; words = refl; noted = refl }

pub loop-entry-preserved : goal.loop-entry-preserved
loop-entry-preserved c =
    let before = c.loop-entry.invariant in
    let x = c.loop-entry.self in
    let h = before.holds in
    let left = c.pop.new.self.items in
    let l = c.literal.result in
    let same = keeps_grown h (regexes_same x.store) refl refl in
    let is = wanted_push x.noted left x.taken.items c.in-Some.entry l c.in-Some.ensures.items c.literal.ensures in
    record {
      holds = record {
        store = h.store;
        regexes = h.regexes;
        formed = h.formed;
        noted = h.noted;
        among = h.among;
        rows = rows_cut c.forget.new.rows.items (wanted_on x.noted left) (wanted_of x.noted (l ∷ [])) is
            (c.forget.ensures (wanted_on x.noted left)
            (subst (λ (ls : List Lit). AreMembers x.atoms x.members.items ls) is h.rows.members)) h.rows;
        joined = h.joined;
        left = λ a noted joined. left_kept same a (h.left a noted joined);
      };
      keeps = keeps_both before.keeps same;
      words = before.words;
      noted = before.noted;
    }

pub loop-entry-smaller : goal.loop-entry-smaller
loop-entry-smaller c =
    omega (
      arith,
      ap length c.in-Some.ensures.items ∙ length-append c.pop.new.self.items (c.in-Some.entry ∷ []),
    )

pub returns : goal.returns
returns c =
    let before = c.loop-entry.invariant in
    let x = c.loop-entry.self in
    let left = c.pop.new.self.items in
    let with : List Assigned → Rows = λ es. record {
      entries = es;
      rows = x.members.items;
      changed = x.changed;
      words = x.words.items;
      fitting = x.fitting.items;
    } in
    let same : left ≡ x.taken.items = sym (append-nil left) ∙ sym c.in_default.ensures.items in
    let keeps = keeps_grown before.holds (regexes_same x.store) refl refl in
    record {
      back = record {
        holds = holds_moved keeps (ap with same) refl before.holds;
        none = same ∙ nil_from_length x.taken.items (omega (arith, x.taken.ok.0, c.in_default.ensures.cases.0));
        words = before.words;
        noted = before.noted;
      };
      keeps = keeps_both before.keeps keeps;
    }
