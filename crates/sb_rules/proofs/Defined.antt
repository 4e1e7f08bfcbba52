-- A line of a regex, judged: from the regex of its node, and from what is kept behind it.
use Rattle.std.proofs.Common.{◌≡◌, ℕ, zero, suc, ◌<◌, true, List, [], ◌∷◌, length, Some, None, Option, Result, Ok, Err, sym, ap, subst, ◌∙◌, arith}
use Rattle.std.specs.List.{list_all}
use Rattle.std.proofs.lemmas.Bool.{and_parts}
use Rattle.std.proofs.lemmas.List.Elements.{All-append, All-cons, All-nil}
use Rattle.sb_lang.specs.Regex.{Regex}
use Rattle.sb_lang.specs.OrderLaws.{OrderTellsApart}
use Rattle.sb_lang.specs.NormalForm.{is_normal}
use Rattle.sb_regex.specs.Numbered.{regex_at, regexes_at, AllNumbers, AreDistinct, Extends}
use Rattle.sb_regex.proofs.CallerLemmas.{names_at, names_below, numbers_kept}
use Rattle.sb_rulebook.specs.Lines.{Node, regex_line}
use Rattle.sb_rulebook.specs.Kept.{AllKept, Asked}
use Rattle.sb_rulebook.specs.RegexRules.{regex_of_node}
use Rattle.sb_rulebook.specs.Follows.{follows}
use Rattle.sb_rules.specs.Answers.{IsJudged, refusal_in}
use Rattle.sb_rules.specs.Known.{Known, with_known}
use Rattle.sb_rules.specs.Making.{IsMade, IsAdded}
use Rattle.sb_rules.specs.declared.fault.Refusal.TheVariants as refusal
use Rattle.sb_rules.specs.declared.fault.Fault.{Fault}
use Rattle.sb_rules.specs.declared.fault.Fault.TheVariants as fault
use Rattle.sb_rules.proofs.Judged.{line-refused, line-repeated, line-taken}

normal-at : (rs : List Regex) → list_all is_normal rs ≡ true → (n : ℕ) → n < length rs
    → is_normal (regex_at rs n) ≡ true
normal-at [] h n l = absurd (omega arith)
normal-at (x ∷ xs) h zero l = (and_parts (is_normal x) (list_all is_normal xs) h).0
normal-at (x ∷ xs) h (suc n) l =
    normal-at xs (and_parts (is_normal x) (list_all is_normal xs) h).1 n (omega (arith, l))

module _ (n : Node) (old new : List Regex) (known : Known) where
  abbrev pub Made : Result (Option ℕ) Fault → Type 0
  Made made = IsMade new (regex_of_node (regexes_at old known.order) n) made

  at-found : (found o : Option ℕ) → found ≡ o → Made (Ok found) → Made (Ok o)
  at-found found o is made = subst (λ (x : Option ℕ). Made (Ok x)) is made

  module _ (grew : Extends old new) (all : AllNumbers old known.order) where
    -- what is kept has numbers in the arena
    pub added-known : {A : Type 0} (found : Option ℕ) (id : ℕ) (after : Known) (result : Result A Fault)
        → found ≡ Some id → Made (Ok found) → IsAdded known after id result → AllNumbers new after.order
    added-known found id after (Ok done) is h added =
        let made = at-found found (Some id) is h in
        subst (λ (k : Known). AllNumbers new k.order) (sym added.1)
        (All-append (λ i. i < length new) known.order (id ∷ []) (numbers_kept old new known.order grew all)
        (All-cons (λ i. i < length new) id [] (names_below new id made.0 made.2) (All-nil (λ i. i < length new))))
    added-known found id after (Err (fault.Refused r)) is h added =
        subst (λ (k : Known). AllNumbers new k.order) (sym added.2) (numbers_kept old new known.order grew all)
    added-known found id after (Err fault.NoMemory) is h added =
        subst (λ (k : Known). AllNumbers new k.order) (sym added) (numbers_kept old new known.order grew all)

    module _ (apart : OrderTellsApart) (once : AreDistinct new) (normal : list_all is_normal new ≡ true)
        (asked : Asked) (kept : AllKept) where
      abbrev pub Judged : {A : Type 0} → Result A Fault → Known → Type 0
      Judged result after =
          IsJudged result (with_known new after kept) (follows asked (with_known old known kept) (regex_line n))

      pub define-unnormal : (found : Option ℕ) → found ≡ None → Made (Ok found)
          → follows asked (with_known old known kept) (regex_line n) ≡ Err (refusal_in refusal.NotNormal)
      define-unnormal found is h =
          let made = at-found found None is h in
          line-refused asked kept n old new known known made.0 apart normal grew all made.1 made.2
          (normal-at new normal)

      pub define-added : {A : Type 0} (found : Option ℕ) (id : ℕ) (after : Known) (result : Result A Fault)
          → found ≡ Some id → Made (Ok found) → IsAdded known after id result → Judged result after
      define-added found id after (Ok done) is h added =
          let made = at-found found (Some id) is h in
          line-taken asked kept n old new known after made.0 apart normal grew all made.1 id once made.2
          added.0
          (ap is_normal (sym (names_at new id made.0 made.2))
          ∙ normal-at new normal id (names_below new id made.0 made.2)) added.1
      define-added found id after (Err (fault.Refused r)) is h added =
          let made = at-found found (Some id) is h in
          line-repeated asked kept n old new known after made.0 apart normal grew all made.1 id once made.2
          added.0
          ∙ ap Err (sym added.1)
      define-added found id after (Err fault.NoMemory) is h added = tt
