-- Lines that follow leave the format as it is.
use Rattle.sb_prover.proofs.Words.{◌≡◌, ℕ, Bool, true, false, if◌then◌else◌, List, [], ◌∷◌, map, Option, Some, None, Result, Ok, Err, refl, ◌∙◌, nat_lt, slice_get, is_some, not, ◌&&◌, AllKept, Asked, Atom, AtomOver, Class, Line, Node, Refusal, Rule, assertion_line, atom_line, by_rule, counting, dead_line, expansion_line, follow_all, follows, is_same_atom, is_well_formed, learned_line, list_any, most_counted, not_brought, not_normal, regex_line, repeated, rests_of_any, rule_broken, rule_line, targets_in, unknown_id, with_clause, with_dead, with_expansion, with_regex, wrong_target, wrong_verdict, Lit, Unlearned, learned, is_repeated, regex_eq, is_normal, are_ascending, is_brought, together, is_expansion, is_known, are_known, holds_by, is_counted, follows_rule, is_translation, follows_assertion, follows_learned}
use Rattle.sb_rulebook.specs.RegexRules as regex
use Rattle.sb_rulebook.specs.AtomRules as atom
use Rattle.sb_rulebook.specs.ClauseRules.{asserted, refusal_of}

-- what is kept, where the line follows, has the format
Has : ℕ → Result AllKept Refusal → Type 0
Has format (Ok after) = after.format ≡ format
Has format (Err refusal) = Unit {0}

either : (format : ℕ) (b : Bool) (r s : Result AllKept Refusal) → Has format r → Has format s
    → Has format (if b then r else s)
either format true r s x y = x
either format false r s x y = y

of-some : {X : Type 0} (format : ℕ) (o : Option X) (refusal : Refusal) (f : X → Result AllKept Refusal)
    → ((x : X) → Has format (f x))
    → Has format (elim o as (λ _. Result AllKept Refusal) [ None ↦ Err refusal | Some x ↦ f x ])
unfolding Has
of-some format None refusal f has = tt
of-some format (Some x) refusal f has = has x

counted : (asked : Asked) (kept : AllKept) → Has kept.format (counting asked kept)
unfolding Has
counted asked kept = either kept.format (nat_lt kept.counted (most_counted asked)) _ (Err wrong_verdict) refl tt

regex-line : (kept : AllKept) (node : Node) → Has kept.format (regex.follows_regex kept node)
unfolding Has
regex-line kept node = of-some kept.format (regex.regex_of_node kept.regexes node) unknown_id (regex.defined kept)
    (λ r. either kept.format (list_any (regex_eq r) kept.regexes) (Err repeated) _ tt
    (either kept.format (is_normal r) (Ok (with_regex r kept)) (Err not_normal) refl tt))

expansion-line : (asked : Asked) (kept : AllKept) (id : ℕ) (ks : List Class)
    → Has kept.format (regex.follows_expansion asked kept id ks)
unfolding Has
expansion-line asked kept id ks = of-some kept.format (slice_get kept.regexes id) unknown_id _
    (λ r. of-some kept.format (together (map (regex.branch_of kept.regexes) ks)) unknown_id
    (regex.expanded asked kept id ks r)
    (λ ps. either kept.format (is_some (targets_in kept.expansions id)) (Err repeated) _ tt
    (either kept.format (is_expansion r ps) _ (Err wrong_target)
    (counted asked (with_expansion id (map (λ k. k.1) ks) kept)) tt)))

dead-line : (kept : AllKept) (ids : List ℕ) → Has kept.format (regex.follows_dead kept ids)
unfolding Has
dead-line kept ids = of-some kept.format (together (map (regex.member_at kept.regexes) ids)) unknown_id
    (regex.died kept ids)
    (λ ms. either kept.format (regex.has_repeated kept ids) (Err repeated) _ tt
    (step (regex.first_alive kept ids ms)))
  where
    step : (o : Option Refusal) → Has kept.format (elim o as (λ _. Result AllKept Refusal)
        [ Some refusal ↦ Err refusal | None ↦ Ok (with_dead ids kept) ])
    step None = refl
    step (Some refusal) = tt

the-atom : (kept : AllKept) (a : Atom) → Has kept.format (atom.defined kept a)
unfolding Has
the-atom kept a = either kept.format (list_any (is_same_atom a) kept.atoms) (Err repeated) _ tt
    (either kept.format (is_well_formed a) _ (Err not_normal) refl tt)

atom-line : (asked : Asked) (kept : AllKept) (a : AtomOver ℕ) → Has kept.format (atom.follows_atom asked kept a)
unfolding Has
atom-line asked kept a = of-some kept.format (atom.with_regex kept.regexes a) unknown_id _
    (λ b. either kept.format (atom.has_its_parts asked.sorts kept.atoms a) _ (Err unknown_id) (the-atom kept b) tt)

assertion-line : (asked : Asked) (kept : AllKept) (place : ℕ) (l : Lit)
    → Has kept.format (follows_assertion asked kept place l)
unfolding Has
assertion-line asked kept place l = of-some kept.format (slice_get asked.live place) unknown_id _
    (λ a. either kept.format (is_known kept.atoms l) (asserted kept place a l) (Err unknown_id)
    (either kept.format (is_translation kept.atoms a.0 l) _ (Err rule_broken) refl tt) tt)

rule-line : (asked : Asked) (kept : AllKept) (rule : Rule) (ls : List Lit)
    → Has kept.format (follows_rule asked kept rule ls)
unfolding Has
rule-line asked kept rule ls = either kept.format (not (are_known kept.atoms ls)) (Err unknown_id) _ tt
    (either kept.format (is_counted rule && is_repeated kept.clauses ls) (Err repeated) _ tt
    (either kept.format (not (are_ascending ls && holds_by kept rule ls)) (Err rule_broken) _ tt
    (either kept.format (is_counted rule) _ _ (counted asked (with_clause kept ls 0 [])) refl)))

learned-line : (asked : Asked) (kept : AllKept) (ls : List Lit) (ids : List ℕ)
    → Has kept.format (follows_learned asked kept ls ids)
unfolding Has
learned-line asked kept ls ids =
    either kept.format (not (are_known kept.atoms ls)) (Err unknown_id) _ tt (step (learned kept.clauses ls ids))
  where
    step : (r : Result ℕ Unlearned) → Has kept.format (elim r as (λ _. Result AllKept Refusal) [
      | Err unlearned ↦ Err (refusal_of unlearned)
      | Ok level ↦ counting asked (with_clause kept ls level (rests_of_any kept ids))
    ])
    step (Err unlearned) = tt
    step (Ok level) = counted asked (with_clause kept ls level (rests_of_any kept ids))

rule-keeps : (asked : Asked) (kept : AllKept) (l : Line) → Has kept.format (by_rule asked kept l)
unfolding Has
rule-keeps asked kept (regex_line node) = regex-line kept node
rule-keeps asked kept (atom_line a) = atom-line asked kept a
rule-keeps asked kept (expansion_line r ks) = expansion-line asked kept r ks
rule-keeps asked kept (dead_line ids) = dead-line kept ids
rule-keeps asked kept (assertion_line place l) = assertion-line asked kept place l
rule-keeps asked kept (rule_line rule ls) = rule-line asked kept rule ls
rule-keeps asked kept (learned_line ls ids) = learned-line asked kept ls ids
rule-keeps asked kept _ = tt

unbrought : (format : ℕ) (r : Result AllKept Refusal) → Has format (not_brought r)
unfolding Has
unbrought format (Ok kept) = tt
unbrought format (Err unknown_id) = tt
unbrought format (Err _) = tt

line-keeps : (asked : Asked) (kept : AllKept) (l : Line) → Has kept.format (follows asked kept l)
line-keeps asked kept l = either kept.format (is_brought l) (by_rule asked kept l) (not_brought (by_rule asked kept l))
    (rule-keeps asked kept l) (unbrought kept.format (by_rule asked kept l))

-- The format stays behind lines that follow.
pub format-stays : (asked : Asked) (kept after : AllKept) (ls : List Line) → follow_all asked kept ls ≡ Ok after
    → after.format ≡ kept.format
unfolding Has
format-stays asked kept after [] h = cc (h)
format-stays asked kept after (l ∷ ls) h =
    step (λ mid. format-stays asked mid after ls) (follows asked kept l) (line-keeps asked kept l) h
  where
    step : ((mid : AllKept) → follow_all asked mid ls ≡ Ok after → after.format ≡ mid.format)
        → (r : Result AllKept Refusal) → Has kept.format r
        → elim r as (λ _. Result AllKept Refusal)
        [ Ok mid ↦ follow_all asked mid ls | Err refusal ↦ Err refusal ] ≡ Ok after → after.format ≡ kept.format
    step rest (Ok mid) has h = rest mid h ∙ has
    step rest (Err refusal) has h = absurd (cc (h))
