-- The line of an expansion follows, and what is tracked behind it.
use Rattle.std.proofs.Common.{◌≡◌, ◌≢◌, ℕ, suc, ◌+◌, ◌-◌, ◌^◌, ◌<◌, ◌≤◌, nat_lt, nat_eq, Bool, true, false, cond, if◌then◌else◌, List, [], ◌∷◌, length, get_or, set, map, slice_get, Option, Some, None, is_some, option_map, Result, Ok, Err, refl, sym, ap, subst, ◌∙◌, arith}
use Rattle.std.specs.List.{list_all}
use Rattle.std.proofs.Math.Dec.{lit<}
use Rattle.std.proofs.lemmas.Bool.{and_from, lt-ltb, true≢false}
use Rattle.std.proofs.lemmas.List.{get_or-set_same, get_or-set_other, length-set}
use Rattle.std.proofs.lemmas.Option.{slice_get-map, slice_get-get_or, unwrap_or-slice_get}
use Rattle.sb_script.specs.Steps.{line}
use Rattle.sb_lit.specs.Budgets.{Spending}
use Rattle.sb_lang.specs.Regex.{Regex}
use Rattle.sb_lang.specs.OrderLaws.{OrderTellsApart}
use Rattle.sb_regex.specs.Numbered.{regex_at, regexes_at}
use Rattle.sb_deriv.specs.Faithful.{Memo, IsKnown, entry_of}
use Rattle.sb_deriv.specs.Pieces.{rises, end_of_characters, targets_of}
use Rattle.sb_trace.specs.Defining.{first_of}
use Rattle.sb_deriv.proofs.CallerLemmas.{rises_rest, rises_le, covers_rises}
use Rattle.sb_graph.specs.Findings.{is_marked}
use Rattle.sb_proof.specs.Tapes.{with_bytes}
use Rattle.sb_proof.specs.declared.line.Class.{Class}
use Rattle.sb_proof.specs.Lines.{class_in}
use Rattle.sb_rulebook.specs.Lines as lines
use Rattle.sb_rulebook.specs.Lines.{expansion_line, text_of}
use Rattle.sb_rulebook.specs.LineLaws.{has_text, is_small, is_small_class}
use Rattle.sb_rulebook.specs.Refusals.{Refusal, unknown_id, repeated, wrong_target, wrong_verdict}
use Rattle.sb_rulebook.specs.Parts.{together}
use Rattle.sb_rulebook.specs.Kept.{AllKept, Asked, targets_in, with_expansion, most_counted, counting}
use Rattle.sb_rulebook.specs.Expansions.{Branch, is_expansion}
use Rattle.sb_rulebook.specs.ExpansionLaws.{TestDecidesExpansion}
use Rattle.sb_rulebook.specs.RegexRules.{branch_of, expanded, follows_expansion}
use Rattle.sb_rulebook.specs.Follows.{follows}
use Rattle.sb_trace.specs.Putting.{IsCounted}
use Rattle.sb_trace.specs.Tracking.{Traced, number_in, IsExpandedTo, Tracks, Traces}
use Rattle.sb_trace.specs.Defining.{classes_of, AreClassesOf}
use Rattle.sb_trace.proofs.Positions.{number-below, nat_same}
use Rattle.sb_trace.proofs.Numbering.{eq_itself}
use Rattle.sb_trace.proofs.Branches.{branches_of, classes_branches, classes_targets, pieces_expand, first_within}
use Rattle.sb_trace.proofs.Puts.{puts_one}

-- The line follows.

follows_by : (asked : Asked) (kept : AllKept) (id : ℕ) (ks : List lines.Class) (r : Regex) (ps : List Branch)
    → slice_get kept.regexes id ≡ Some r → together (map (branch_of kept.regexes) ks) ≡ Some ps
    → is_some (targets_in kept.expansions id) ≡ false → is_expansion r ps ≡ true
    → nat_lt kept.counted (most_counted asked) ≡ true
    → follows_expansion asked kept id ks
    ≡ Ok (record kept {
      expansions = set kept.expansions id (Some (map (λ (k : lines.Class). k.1) ks));
      counted = kept.counted + 1;
    })
follows_by asked kept id ks r ps there branches new right within =
    let now = with_expansion id (map (λ (k : lines.Class). k.1) ks) kept in
    ap (λ o. elim o as (λ _. Result AllKept Refusal) [
      | None ↦ Err unknown_id
      | Some r ↦ elim (together (map (branch_of kept.regexes) ks)) as (λ _. Result AllKept Refusal)
          [ None ↦ Err unknown_id | Some ps ↦ expanded asked kept id ks r ps ]
    ]) there
    ∙ ap (λ o. elim o as (λ _. Result AllKept Refusal)
    [ None ↦ Err unknown_id | Some ps ↦ expanded asked kept id ks r ps ]) branches
    ∙ ap (λ b. if b then Err repeated else if is_expansion r ps then counting asked now else Err wrong_target) new
    ∙ ap (λ b. if b then counting asked now else Err wrong_target) right
    ∙ ap (λ b. if b then Ok (record now { counted = now.counted + 1 }) else Err wrong_verdict) within

regex_there : (rs : List Regex) (order : List ℕ) (k : ℕ) → k < length order
    → slice_get (regexes_at rs order) k ≡ Some (regex_at rs (get_or order k 0))
regex_there rs order k l =
    slice_get-map (regex_at rs) order k ∙ ap (option_map (regex_at rs)) (slice_get-get_or order k 0 l)

-- what is kept behind the line
abbrev pub behind_expansion : ℕ → List ℕ → AllKept → AllKept
behind_expansion number targets kept =
    record kept { expansions = set kept.expansions number (Some targets); counted = kept.counted + 1 }

expansion_follows : OrderTellsApart → TestDecidesExpansion → (asked : Asked) (rs : List Regex) (memo : Memo)
    (t : Traced) (kept : AllKept) (number : ℕ) (pieces : List (ℕ × ℕ)) (targets : List ℕ) → number < length t.order
    → IsKnown rs (get_or t.order number 0) pieces → map (number_in t.order) (targets_of pieces) ≡ map Some targets
    → is_marked t.expanded number ≡ false → Tracks rs memo t kept → kept.counted < most_counted asked
    → follows asked kept (expansion_line number (classes_of pieces targets))
    ≡ Ok (behind_expansion number targets kept)
expansion_follows apart decides asked rs memo t kept number pieces targets within known numbered new tracks room =
    let r = regex_at rs (get_or t.order number 0) in
    let there : slice_get kept.regexes number ≡ Some r =
    ap (λ known. slice_get known number) tracks.regexes ∙ regex_there rs t.order number within in
    let branches : together (map (branch_of kept.regexes) (classes_of pieces targets)) ≡ Some (branches_of rs pieces) =
    ap (λ known. together (map (branch_of known) (classes_of pieces targets))) tracks.regexes
    ∙ classes_branches rs t.order pieces targets numbered in
    let right = (decides r (branches_of rs pieces)).1
    (pieces_expand apart rs (get_or t.order number 0) pieces known) in
    follows_by asked kept number (classes_of pieces targets) r (branches_of rs pieces) there branches
    (tracks.expanded number ∙ new) right (lt-ltb kept.counted (most_counted asked) room)
    ∙ ap (λ ns. Ok (behind_expansion number ns kept)) (classes_targets t.order pieces targets numbered)

-- It has a text.

small : (n : ℕ) → n < 2 ^ 64 → is_small n ≡ true
small n h = lt-ltb n (2 ^ 64) h

small_character : (n : ℕ) → n ≤ end_of_characters → is_small n ≡ true
small_character n h =
    let l : end_of_characters < 2 ^ 64 = lit< tt in lt-ltb n (2 ^ 64) (omega (arith, l, h))

small_classes : (order : List ℕ) (n : ℕ) (pieces : List (ℕ × ℕ)) (targets : List ℕ) → length order ≤ 2 ^ 64
    → rises n pieces end_of_characters ≡ true → map (number_in order) (targets_of pieces) ≡ map Some targets
    → list_all is_small_class (classes_of pieces targets) ≡ true
small_classes order n [] targets long h numbered = refl
small_classes order n (p ∷ ps) [] long h numbered = refl
small_classes order n (p ∷ ps) (k ∷ ks) long h numbered =
    let first : number_in order p.1 ≡ Some k = Prim.cc (numbered) in
    let others : map (number_in order) (targets_of ps) ≡ map Some ks = Prim.cc (numbered) in
    let rest = rises_rest n p ps end_of_characters h in
    let above = rises_le (suc p.0) ps end_of_characters rest in
    let below = first_within (suc p.0) ps end_of_characters rest in
    let low = number-below order p.1 k first in
    and_from _ _
    (and_from _ _
    (and_from _ _
    (and_from _ _ (small_character p.0 (omega (arith, above)))
    (small_character (first_of end_of_characters ps - 1) (omega (arith, below)))) refl)
    (small k (omega (arith, low, long))))
    (small_classes order (suc p.0) ps ks long rest others)

expansion_has_text : (order : List ℕ) (number : ℕ) (pieces : List (ℕ × ℕ)) (targets : List ℕ)
    → length order ≤ 2 ^ 64 → number < length order → rises 0 pieces end_of_characters ≡ true
    → map (number_in order) (targets_of pieces) ≡ map Some targets
    → has_text (expansion_line number (classes_of pieces targets)) ≡ true
expansion_has_text order number pieces targets long within h numbered =
    and_from _ _ (small number (omega (arith, long, within))) (small_classes order 0 pieces targets long h numbered)

-- What is tracked behind it.

eq_other : (m n : ℕ) → nat_eq m n ≡ false → m ≢ n
eq_other m n h e = true≢false (sym (subst (λ k. nat_eq m k ≡ true) e (eq_itself m)) ∙ h)

targets_set : (expansions : List (Option (List ℕ))) (number : ℕ) (targets : List ℕ) (n : ℕ)
    → number < length expansions
    → targets_in (set expansions number (Some targets)) n
    ≡ cond (nat_eq n number) (Some targets) (targets_in expansions n)
targets_set expansions number targets n within =
    unwrap_or-slice_get (set expansions number (Some targets)) n None
    ∙ step (nat_eq n number) refl
  where
    step : (b : Bool) → nat_eq n number ≡ b
        → get_or (set expansions number (Some targets)) n None ≡ cond b (Some targets) (targets_in expansions n)
    step true h =
        subst (λ m. get_or (set expansions number (Some targets)) m None ≡ Some targets) (sym (nat_same n number h))
        (get_or-set_same expansions number (Some targets) None within)
    step false h =
        get_or-set_other expansions number n (Some targets) None (eq_other n number h)
        ∙ sym (unwrap_or-slice_get expansions n None)

pub mark_set : (marks : List Bool) (number n : ℕ) → number < length marks
    → is_marked (set marks number true) n ≡ cond (nat_eq n number) true (is_marked marks n)
mark_set marks number n within = step (nat_eq n number) refl
  where
    step : (b : Bool) → nat_eq n number ≡ b
        → is_marked (set marks number true) n ≡ cond b true (is_marked marks n)
    step true h =
        subst (λ m. is_marked (set marks number true) m ≡ true) (sym (nat_same n number h))
        (get_or-set_same marks number true false within)
    step false h = get_or-set_other marks number n true false (eq_other n number h)

some_cond : (b : Bool) (targets : List ℕ) (o : Option (List ℕ)) (m : Bool) → is_some o ≡ m
    → is_some (cond b (Some targets) o) ≡ cond b true m
some_cond true targets o m h = refl
some_cond false targets o m h = h

tracks_expanded : (rs : List Regex) (memo : Memo) (t : Traced) (kept : AllKept) (number : ℕ)
    (pieces : List (ℕ × ℕ)) (targets : List ℕ) → number < length t.order → length t.order ≤ length t.expanded
    → entry_of memo (get_or t.order number 0) ≡ Some pieces
    → map (number_in t.order) (targets_of pieces) ≡ map Some targets → Tracks rs memo t kept
    → Tracks rs memo (record t { expanded = set t.expanded number true }) (behind_expansion number targets kept)
tracks_expanded rs memo t kept number pieces targets within long entry numbered tracks =
    let low : number < length kept.expansions = omega (arith, within, tracks.expansions_long) in
    record {
      numbers = tracks.numbers;
      regexes = tracks.regexes;
      expansions_long = length-set kept.expansions number (Some targets) ∙ tracks.expansions_long;
      dead_long = tracks.dead_long;
      expanded = λ n.
          ap is_some (targets_set kept.expansions number targets n low)
          ∙ some_cond (nat_eq n number) targets (targets_in kept.expansions n) (is_marked t.expanded n)
          (tracks.expanded n)
          ∙ sym (mark_set t.expanded number n (omega (arith, within, long)));
      dead = tracks.dead;
      targets = λ n found h.
          split n found (nat_eq n number) refl (sym (targets_set kept.expansions number targets n low) ∙ h);
    }
  where
    split : (n : ℕ) (found : List ℕ) (b : Bool) → nat_eq n number ≡ b
        → cond b (Some targets) (targets_in kept.expansions n) ≡ Some found → IsExpandedTo memo t.order n found
    split n found true is h =
        let same : targets ≡ found = Prim.cc (h) in
        subst (λ (ns : List ℕ). IsExpandedTo memo t.order n ns) same
        (subst (λ (m : ℕ). IsExpandedTo memo t.order m targets) (sym (nat_same n number is))
        (record { pieces = pieces; derivative = entry; are = numbered }))
    split n found false is h = tracks.targets n found h

pub expansion_traced : OrderTellsApart → TestDecidesExpansion → (asked : Asked) (rs : List Regex) (memo : Memo)
    (t : Traced) (kept : AllKept) (number : ℕ) (pieces : List (ℕ × ℕ)) (classes : List Class)
    (budget left : Spending) (told after : Option (List ℕ)) → number < length t.order
    → length t.order ≤ length t.expanded → length t.order ≤ 2 ^ 64
    → IsKnown rs (get_or t.order number 0) pieces → entry_of memo (get_or t.order number 0) ≡ Some pieces
    → AreClassesOf t.order pieces classes → is_marked t.expanded number ≡ false → Tracks rs memo t kept
    → IsCounted asked kept budget → budget.spent < budget.limit
    → left ≡ record budget { spent = budget.spent + 1 }
    → after ≡ with_bytes (line (text_of (expansion_line number (map class_in classes)))) told
    → Traces asked kept rs memo (record t { expanded = set t.expanded number true }) left told after
expansion_traced apart decides asked rs memo t kept number pieces classes budget left told after within long small
    known entry are new tracks counts room spent put =
    let targets = are.targets in
    let line_is = expansion_line number (classes_of pieces targets) in
    let rising = covers_rises pieces end_of_characters known.derivative.ordered.whole in
    let most : kept.counted < most_counted asked = omega (arith, room, counts.spent, counts.limit) in
    record {
      after = behind_expansion number targets kept;
      puts = puts_one asked kept (behind_expansion number targets kept) line_is told after
          (expansion_follows apart decides asked rs memo t kept number pieces targets within known are.numbered new
          tracks most)
          (expansion_has_text t.order number pieces targets small within rising are.numbered)
          (put ∙ ap (λ ks. with_bytes (line (text_of (expansion_line number ks))) told) are.are);
      tracks = tracks_expanded rs memo t kept number pieces targets within long entry are.numbered tracks;
      counts = record {
        spent = ap (λ n. n + 1) counts.spent ∙ sym (ap (λ (b : Spending). b.spent) spent);
        limit = counts.limit ∙ sym (ap (λ (b : Spending). b.limit) spent);
      };
      keeps = record { format = refl; atoms = refl; clauses = refl; rests = refl };
    }

-- the same of a trace that is seen in two ways
pub expansion_traced_at : OrderTellsApart → TestDecidesExpansion → (asked : Asked) (rs : List Regex) (memo : Memo)
    (t u : Traced) (kept : AllKept) (number : ℕ) (pieces : List (ℕ × ℕ)) (classes : List Class)
    (budget left : Spending) (told after : Option (List ℕ)) → u ≡ t → length u.order ≤ length u.expanded
    → length u.order ≤ 2 ^ 64 → budget.spent < budget.limit → left ≡ record budget { spent = budget.spent + 1 }
    → after ≡ with_bytes (line (text_of (expansion_line number (map class_in classes)))) told
    → number < length t.order → IsKnown rs (get_or t.order number 0) pieces
    → entry_of memo (get_or t.order number 0) ≡ Some pieces → AreClassesOf t.order pieces classes
    → is_marked t.expanded number ≡ false → Tracks rs memo t kept → IsCounted asked kept budget
    → Traces asked kept rs memo (record u { expanded = set u.expanded number true }) left told after
expansion_traced_at apart decides asked rs memo t u kept number pieces classes budget left told after same long small
    room spent put within known entry are new tracks counts =
    subst (λ (v : Traced). length v.order ≤ length v.expanded → length v.order ≤ 2 ^ 64
    → Traces asked kept rs memo (record v { expanded = set v.expanded number true }) left told after) (sym same)
    (λ long small. expansion_traced apart decides asked rs memo t kept number pieces classes budget left told after
    within long small known entry are new tracks counts room spent put) long small
