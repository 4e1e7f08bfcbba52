-- Lines that are put one behind another.
use Rattle.std.proofs.Common.{◌≡◌, ℕ, true, ◌&&◌, List, [], ◌∷◌, ◌++◌, map, Option, Some, None, Result, Ok, Err, refl, sym, ap, ap₂, ◌∙◌, append_assoc}
use Rattle.std.proofs.lemmas.Grind.{flat_map-append}
use Rattle.std.proofs.lemmas.List.{map-append, append-nil}
use Rattle.std.proofs.lemmas.List.Folds.{list_all-append}
use Rattle.sb_script.specs.Steps.{line}
use Rattle.sb_rulebook.specs.Refusals.{Refusal}
use Rattle.sb_rulebook.specs.Lines.{Line, Node, regex_line, text_of}
use Rattle.sb_rulebook.specs.LineLaws.{has_text, bytes_of}
use Rattle.sb_rulebook.specs.Kept.{AllKept, Asked}
use Rattle.sb_rulebook.specs.Follows.{follows}
use Rattle.sb_proof.specs.Tapes.{with_bytes}
use Rattle.sb_lang.specs.Regex.{Regex}
use Rattle.sb_deriv.specs.Faithful.{Memo}
use Rattle.sb_trace.specs.Putting.{Puts, KeepsClauses, follow_all, defines_regex}
use Rattle.sb_trace.specs.Tracking.{Traced, Tracks, TracesUncounted, TracesRegexes, StaysNumbered}

with_bytes-nil : (told : Option (List ℕ)) → told ≡ with_bytes [] told
with_bytes-nil None = refl
with_bytes-nil (Some there) = ap Some (sym (append-nil there))

with_bytes-append : (xs ys : List ℕ) (told : Option (List ℕ))
    → with_bytes ys (with_bytes xs told) ≡ with_bytes (xs ++ ys) told
with_bytes-append xs ys None = refl
with_bytes-append xs ys (Some there) = ap Some (append_assoc there xs ys)

bytes-append : (ls ms : List Line)
    → bytes_of (map text_of (ls ++ ms)) ≡ bytes_of (map text_of ls) ++ bytes_of (map text_of ms)
bytes-append ls ms = ap bytes_of (map-append text_of ls ms) ∙ flat_map-append line (map text_of ls) (map text_of ms)

follow-step : (asked : Asked) (b : AllKept) (ls ms : List Line) (r : Result AllKept Refusal)
    → ((after : AllKept) → follow_all asked after ls ≡ Ok b
    → follow_all asked after (ls ++ ms) ≡ follow_all asked b ms)
    → elim r as (λ _. Result AllKept Refusal)
    [ Ok after ↦ follow_all asked after ls | Err refusal ↦ Err refusal ] ≡ Ok b
    → elim r as (λ _. Result AllKept Refusal)
    [ Ok after ↦ follow_all asked after (ls ++ ms) | Err refusal ↦ Err refusal ] ≡ follow_all asked b ms
follow-step asked b ls ms (Ok after) more h = more after h
follow-step asked b ls ms (Err refusal) more h = cc

pub follow_all-append : (asked : Asked) (a b : AllKept) (ls ms : List Line) → follow_all asked a ls ≡ Ok b
    → follow_all asked a (ls ++ ms) ≡ follow_all asked b ms
follow_all-append asked a b [] ms h = let e : a ≡ b = cc in ap (λ k. follow_all asked k ms) e
follow_all-append asked a b (l ∷ ls) ms h =
    follow-step asked b ls ms (follows asked a l) (λ after. follow_all-append asked after b ls ms) h

follow-one : (asked : Asked) (b : AllKept) (r : Result AllKept Refusal) → r ≡ Ok b
    → elim r as (λ _. Result AllKept Refusal) [ Ok after ↦ Ok after | Err refusal ↦ Err refusal ] ≡ Ok b
follow-one asked b (Ok after) h = h
follow-one asked b (Err refusal) h = h

pub puts_none : (asked : Asked) (kept : AllKept) (told : Option (List ℕ)) → Puts asked kept kept told told
puts_none asked kept told =
    record { lines = []; have_text = refl; told = with_bytes-nil told; follow = refl }

pub puts_both : (asked : Asked) (a b c : AllKept) (t u v : Option (List ℕ)) → Puts asked a b t u → Puts asked b c u v
    → Puts asked a c t v
puts_both asked a b c t u v p q = record {
  lines = p.lines ++ q.lines;
  have_text = list_all-append has_text p.lines q.lines ∙ ap₂ (λ x y. x && y) p.have_text q.have_text;
  told = q.told ∙ ap (with_bytes (bytes_of (map text_of q.lines))) p.told
      ∙ with_bytes-append (bytes_of (map text_of p.lines)) (bytes_of (map text_of q.lines)) t
      ∙ ap (λ bytes. with_bytes bytes t) (sym (bytes-append p.lines q.lines));
  follow = follow_all-append asked a b p.lines q.lines p.follow ∙ q.follow;
}

pub puts_one : (asked : Asked) (a b : AllKept) (l : Line) (t u : Option (List ℕ)) → follows asked a l ≡ Ok b
    → has_text l ≡ true → u ≡ with_bytes (line (text_of l)) t → Puts asked a b t u
puts_one asked a b l t u h text told = record {
  lines = l ∷ [];
  have_text = ap (λ x. x && true) text;
  told = told ∙ ap (λ bytes. with_bytes bytes t) (sym (append-nil (line (text_of l))));
  follow = follow-one asked b (follows asked a l) h;
}

-- What a trace knows, through lines that are put.

pub traces_none : (asked : Asked) (kept : AllKept) (rs : List Regex) (memo : Memo) (t : Traced)
    (told : Option (List ℕ)) → Tracks rs memo t kept → TracesUncounted asked kept rs memo t told told
traces_none asked kept rs memo t told tracks = (
  kept,
  puts_none asked kept told,
  tracks,
  record { format = refl; atoms = refl; clauses = refl; rests = refl },
  refl,
)

pub traces_both : (asked : Asked) (kept : AllKept) (rs : List Regex) (memo : Memo) (t u : Traced)
    (x y z : Option (List ℕ)) → TracesUncounted asked kept rs memo t x y
    → ((after : AllKept) → Tracks rs memo t after → TracesUncounted asked after rs memo u y z)
    → TracesUncounted asked kept rs memo u x z
traces_both asked kept rs memo t u x y z p more =
    let q = more p.0 p.2 in (
      q.0,
      puts_both asked kept p.0 q.0 x y z p.1 q.1,
      q.2,
      record {
        format = q.3.format ∙ p.3.format;
        atoms = q.3.atoms ∙ p.3.atoms;
        clauses = q.3.clauses ∙ p.3.clauses;
        rests = q.3.rests ∙ p.3.rests;
      },
      q.4 ∙ p.4,
    )

-- The same where each line defines a regex.

pub regexes_none : (asked : Asked) (kept : AllKept) (rs : List Regex) (memo : Memo) (t : Traced)
    (told : Option (List ℕ)) → Tracks rs memo t kept → TracesRegexes asked kept rs memo t told told
unfolding puts_none traces_none
regexes_none asked kept rs memo t told tracks =
    record { traced = traces_none asked kept rs memo t told tracks; are = refl }

pub regexes_one : (asked : Asked) (kept after : AllKept) (rs : List Regex) (memo : Memo) (t : Traced) (node : Node)
    (x y : Option (List ℕ)) → follows asked kept (regex_line node) ≡ Ok after → has_text (regex_line node) ≡ true
    → y ≡ with_bytes (line (text_of (regex_line node))) x → Tracks rs memo t after → KeepsClauses kept after
    → after.counted ≡ kept.counted → TracesRegexes asked kept rs memo t x y
unfolding puts_one
regexes_one asked kept after rs memo t node x y h text told tracks keeps counted = record {
  traced = (after, puts_one asked kept after (regex_line node) x y h text told, tracks, keeps, counted);
  are = refl;
}

pub regexes_both : (asked : Asked) (kept : AllKept) (rs : List Regex) (memo : Memo) (t u : Traced)
    (x y z : Option (List ℕ)) → TracesRegexes asked kept rs memo t x y
    → ((after : AllKept) → Tracks rs memo t after → TracesRegexes asked after rs memo u y z)
    → TracesRegexes asked kept rs memo u x z
unfolding puts_both traces_both
regexes_both asked kept rs memo t u x y z p more =
    let q = more p.traced.0 p.traced.2 in
    record {
      traced = traces_both asked kept rs memo t u x y z p.traced (λ after tracks. (more after tracks).traced);
      are = list_all-append defines_regex p.traced.1.lines q.traced.1.lines ∙ ap₂ (λ a b. a && b) p.are q.are;
    }

pub stays_both : (a b c : Traced) → StaysNumbered a b → StaysNumbered b c → StaysNumbered a c
stays_both a b c p q = (p.0 ++ q.0, q.1 ∙ ap (λ order. order ++ q.0) p.1 ∙ append_assoc a.order p.0 q.0)
