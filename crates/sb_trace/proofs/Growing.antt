-- What a trace knows, where an arena, a graph and the trace itself grow.
use Rattle.std.proofs.Common.{◌≡◌, ℕ, ◌≤◌, Bool, true, false, List, [], length, get_or, Option, Some, None, is_some, refl, sym, ap, subst, ◌∙◌}
use Rattle.std.proofs.lemmas.Bool.{true≢false}
use Rattle.std.proofs.lemmas.List.{append-nil}
use Rattle.sb_lang.specs.Regex.{Regex}
use Rattle.sb_lit.specs.Budgets.{Spending}
use Rattle.sb_regex.specs.Numbered.{Extends}
use Rattle.sb_regex.proofs.CallerLemmas.{numbers_kept, ats_kept, extends_same, extends_more}
use Rattle.sb_deriv.specs.Faithful.{Memo, KeepsEntries}
use Rattle.sb_graph.specs.Findings.{Findings, IsGraph, is_marked}
use Rattle.sb_rulebook.specs.Kept.{AllKept, Asked}
use Rattle.sb_trace.specs.Putting.{IsCounted, KeepsClauses}
use Rattle.sb_trace.specs.Tracking.{Traced, number_in, IsExpandedTo, Tracks, Traces, TracesUncounted, IsExpandedIn, is_dead_in, is_expanded_in, StaysNumbered, OnlyNumbers}
use Rattle.sb_trace.specs.Closing.{GoesOn}
use Rattle.sb_trace.proofs.Positions.{number-stays}
use Rattle.sb_trace.proofs.Numbering.{number_later, marked_in}
use Rattle.sb_trace.proofs.Puts.{puts_none, puts_both, stays_both}

-- An arena and a graph that grow.

expanded_grows : (memo more : Memo) (order : List ℕ) (n : ℕ) (targets : List ℕ) → KeepsEntries memo more
    → IsExpandedTo memo order n targets → IsExpandedTo more order n targets
expanded_grows memo more order n targets keeps e =
    record { pieces = e.pieces; derivative = keeps (get_or order n 0) e.pieces e.derivative; are = e.are }

pub tracks_grow : (old new : List Regex) (memo more : Memo) (t : Traced) (kept : AllKept) → Extends old new
    → KeepsEntries memo more → Tracks old memo t kept → Tracks new more t kept
tracks_grow old new memo more t kept extends keeps tracks = record {
  numbers = numbers_kept old new t.order extends tracks.numbers;
  regexes = tracks.regexes ∙ sym (ats_kept old new t.order extends tracks.numbers);
  expansions_long = tracks.expansions_long;
  dead_long = tracks.dead_long;
  expanded = tracks.expanded;
  dead = tracks.dead;
  targets = λ n targets h. expanded_grows memo more t.order n targets keeps (tracks.targets n targets h);
}

-- Steps one behind another.

pub keeps_same : (kept : AllKept) → KeepsClauses kept kept
keeps_same kept = record { format = refl; atoms = refl; clauses = refl; rests = refl }

pub keeps_both : (a b c : AllKept) → KeepsClauses a b → KeepsClauses b c → KeepsClauses a c
keeps_both a b c p q = record {
  format = q.format ∙ p.format;
  atoms = q.atoms ∙ p.atoms;
  clauses = q.clauses ∙ p.clauses;
  rests = q.rests ∙ p.rests;
}

pub counted_same : (asked : Asked) (before after : AllKept) (budget : Spending) → after.counted ≡ before.counted
    → IsCounted asked before budget → IsCounted asked after budget
counted_same asked before after budget same counts = record { spent = same ∙ counts.spent; limit = counts.limit }

pub traces_uncounted : (asked : Asked) (before : AllKept) (rs : List Regex) (memo : Memo) (t : Traced)
    (budget : Spending) (a b : Option (List ℕ)) → IsCounted asked before budget
    → TracesUncounted asked before rs memo t a b → Traces asked before rs memo t budget a b
traces_uncounted asked before rs memo t budget a b counts p = record {
  after = p.0;
  puts = p.1;
  tracks = p.2;
  counts = counted_same asked before p.0 budget p.4 counts;
  keeps = p.3;
}

pub traces_none : (asked : Asked) (before : AllKept) (rs : List Regex) (memo : Memo) (t : Traced) (budget : Spending)
    (told : Option (List ℕ)) → Tracks rs memo t before → IsCounted asked before budget
    → Traces asked before rs memo t budget told told
traces_none asked before rs memo t budget told tracks counts = record {
  after = before;
  puts = puts_none asked before told;
  tracks = tracks;
  counts = counts;
  keeps = keeps_same before;
}

pub traces_both : (asked : Asked) (before : AllKept) (rs new : List Regex) (memo more : Memo) (t u : Traced)
    (budget left : Spending) (a b c : Option (List ℕ)) → Traces asked before rs memo t budget a b
    → ((after : AllKept) → Tracks rs memo t after → IsCounted asked after budget
    → Traces asked after new more u left b c) → Traces asked before new more u left a c
traces_both asked before rs new memo more t u budget left a b c p next =
    let q = next p.after p.tracks p.counts in
    record {
      after = q.after;
      puts = puts_both asked before p.after q.after a b c p.puts q.puts;
      tracks = q.tracks;
      counts = q.counts;
      keeps = keeps_both before p.after q.after p.keeps q.keeps;
    }

-- A trace that grows.

pub stays_same : (t : Traced) → StaysNumbered t t
stays_same t = ([], sym (append-nil t.order))

-- regexes that get numbers, step behind step
pub only_numbers_same : (t : Traced) → OnlyNumbers t t
only_numbers_same t = record { stays = stays_same t; expanded = λ n. refl; dead = λ n. refl }

pub only_numbers_both : (a b c : Traced) → OnlyNumbers a b → OnlyNumbers b c → OnlyNumbers a c
only_numbers_both a b c p q = record {
  stays = stays_both a b c p.stays q.stays;
  expanded = λ n. q.expanded n ∙ p.expanded n;
  dead = λ n. q.dead n ∙ p.dead n;
}

pub number_kept : (t u : Traced) (n k : ℕ) → StaysNumbered t u → number_in t.order n ≡ Some k
    → number_in u.order n ≡ Some k
number_kept t u n k stays h =
    subst (λ order. number_in order n ≡ Some k) (sym stays.1) (number-stays t.order stays.0 n k h)

pub number_later_in : (t u : Traced) (n k : ℕ) → StaysNumbered t u → number_in t.order n ≡ None
    → number_in u.order n ≡ Some k → length t.order ≤ k
number_later_in t u n k stays none h =
    number_later t.order stays.0 n k none (subst (λ order. number_in order n ≡ Some k) stays.1 h)

-- where marks stay, and none was on a number that is not there yet
marked_in_stays : (t u : Traced) (old new : List Bool) → StaysNumbered t u
    → ((k : ℕ) → is_marked new k ≡ is_marked old k)
    → ((k : ℕ) → length t.order ≤ k → is_marked old k ≡ false) → (n : ℕ)
    → marked_in u.order new n ≡ marked_in t.order old n
marked_in_stays t u old new stays marks later n = step (number_in t.order n) (number_in u.order n) refl refl
  where
    step : (o p : Option ℕ) → number_in t.order n ≡ o → number_in u.order n ≡ p
        → elim p as (λ _. Bool) [ None ↦ false | Some k ↦ is_marked new k ]
        ≡ elim o as (λ _. Bool) [ None ↦ false | Some k ↦ is_marked old k ]
    step None None g h = refl
    step None (Some k) g h = marks k ∙ later k (number_later_in t u n k stays g h)
    step (Some k) None g h = absurd (true≢false (ap is_some (sym (number_kept t u n k stays g) ∙ h)))
    step (Some j) (Some k) g h =
        let both : Some j ≡ Some k = sym (number_kept t u n j stays g) ∙ h in
        let same : j ≡ k = Prim.cc (both) in
        subst (λ j. is_marked new k ≡ is_marked old j) (sym same) (marks k)

pub dead_in_stays : (t u : Traced) → StaysNumbered t u → ((k : ℕ) → is_marked u.dead k ≡ is_marked t.dead k)
    → ((k : ℕ) → length t.order ≤ k → is_marked t.dead k ≡ false) → (n : ℕ) → is_dead_in u n ≡ is_dead_in t n
dead_in_stays t u stays marks later n = marked_in_stays t u t.dead u.dead stays marks later n

pub expanded_same : (t u : Traced) → StaysNumbered t u
    → ((k : ℕ) → is_marked u.expanded k ≡ is_marked t.expanded k)
    → ((k : ℕ) → length t.order ≤ k → is_marked t.expanded k ≡ false) → (n : ℕ)
    → is_expanded_in u n ≡ is_expanded_in t n
expanded_same t u stays marks later n = marked_in_stays t u t.expanded u.expanded stays marks later n

pub expanded_in_stays : (t u : Traced) → StaysNumbered t u
    → ((k : ℕ) → is_marked t.expanded k ≡ true → is_marked u.expanded k ≡ true)
    → (n : ℕ) → IsExpandedIn t n → IsExpandedIn u n
expanded_in_stays t u stays marks n e = (e.0, number_kept t u n e.0 stays e.1, marks e.0 e.2)

-- a regex that gets its number is expanded only where it was before
pub expanded_before : (t u : Traced) → StaysNumbered t u
    → ((k : ℕ) → is_marked u.expanded k ≡ is_marked t.expanded k)
    → ((k : ℕ) → length t.order ≤ k → is_marked t.expanded k ≡ false) → (n : ℕ) → IsExpandedIn u n
    → IsExpandedIn t n
expanded_before t u stays marks new n e = step (number_in t.order n) refl
  where
    step : (o : Option ℕ) → number_in t.order n ≡ o → IsExpandedIn t n
    step None g = absurd (true≢false (sym e.2 ∙ marks e.0 ∙ new e.0 (number_later_in t u n e.0 stays g e.1)))
    step (Some k) g =
        let both : Some k ≡ Some e.0 = sym (number_kept t u n k stays g) ∙ e.1 in
        let same : k ≡ e.0 = Prim.cc (both) in
        (k, g, ap (is_marked t.expanded) same ∙ sym (marks e.0) ∙ e.2)

pub goes_same : (rs : List Regex) (g : Findings) (t : Traced) → IsGraph rs g → GoesOn rs rs g g t t
goes_same rs g t graph = record {
  stays = stays_same t;
  buried = λ n. refl;
  expanded = λ n e. e;
  extends = extends_same rs;
  graph = graph;
  marks = refl;
  derivatives = λ n pieces h. h;
}

pub goes_both : (a b c : List Regex) (g h i : Findings) (t u v : Traced) → GoesOn a b g h t u → GoesOn b c h i u v
    → GoesOn a c g i t v
goes_both a b c g h i t u v p q = record {
  stays = stays_both t u v p.stays q.stays;
  buried = λ n. q.buried n ∙ p.buried n;
  expanded = λ n e. q.expanded n (p.expanded n e);
  extends = extends_more a b c p.extends q.extends;
  graph = q.graph;
  marks = q.marks ∙ p.marks;
  derivatives = λ n pieces k. q.derivatives n pieces (p.derivatives n pieces k);
}

-- A run over what is known after a graph grew is one over what was known before.

abbrev pub TracesFrom : Traced → Spending → List Regex → Memo → List Regex → Memo → Traced → Spending
    → Option (List ℕ) → Option (List ℕ) → Type 0
TracesFrom t budget rs memo new more u left a b =
    (asked : Asked) (before : AllKept) → Tracks rs memo t before → IsCounted asked before budget
    → Traces asked before new more u left a b

pub traces_grown : (old rs new : List Regex) (first memo more : Memo) (t u : Traced) (budget left : Spending)
    (a b : Option (List ℕ)) → Extends old rs → KeepsEntries first memo
    → TracesFrom t budget rs memo new more u left a b → TracesFrom t budget old first new more u left a b
traces_grown old rs new first memo more t u budget left a b extends keeps put asked before tracks counts =
    put asked before (tracks_grow old rs first memo t before extends keeps tracks) counts
