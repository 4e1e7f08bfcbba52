-- What was scanned is shortened where no entry is whole.
use Rattle.std.proofs.Common.{◌≡◌, ℕ, ◌-◌, ◌≤◌, false, List, ◌++◌, length, take, drop, refl, sym, subst, rules, true, ap, ◌∙◌}
use Rattle.std.proofs.lemmas.List.{take_at}
use Rattle.sb_reader.specs.Entries.{HoldsNoEntry}
use Rattle.sb_reader.specs.Feeding.{ShortensTo, Unanswered}
use Rattle.sb_reader.proofs.Goes.{scanned_all}
use Rattle.sb_reader.specs.Scanning.{IsScan, IsStarted}
use Rattle.sb_reader.specs.Tokens.{is_open_gap}
use Rattle.sb_reader.proofs.Slices.{behind, started, none_left}
use Rattle.sb_reader.proofs.feed.Feed.next.Goals as goal

pub returns-in_default : goal.returns-in_default
returns-in_default c =
    let shorten = c.shorten-self-inside in
    let kept = c.self.inside.kept in
    let long : length shorten.new.bytes ≡ kept.len = search rules in
    let all : take kept.len (shorten.new.bytes ++ drop (length shorten.new.bytes) kept.items) ≡ shorten.new.bytes =
    take_at shorten.new.bytes (drop (length shorten.new.bytes) kept.items) kept.len long in
    record {
      ok = rw (← c.self.view_is) (record {
        shorter = subst (λ (bytes : List ℕ). ShortensTo (drop c.self.inside.start kept.items)
            (drop shorten.result bytes)) (sym all) (rw c.deref_mut.ensures.value at shorten.ensures.shorter);
        short = λ alone. subst (λ (bytes : List ℕ). length (drop shorten.result bytes) ≤ 1) (sym all)
            ((rw c.deref_mut.ensures.value at shorten.ensures.short) alone);
        more_may_come = c.if-not-self.true;
        still = c.if-not-self.true;
        no_entry = subst (λ (bytes : List ℕ). HoldsNoEntry false (drop shorten.result bytes)) (sym all)
            (scanned_all shorten.new.scan (drop shorten.result shorten.new.bytes) shorten.ensures.started.scan_of
            shorten.ensures.all);
      });
      err = tt;
      finished = rw (← c.self.view_is) refl;
    }

pub find_end-requires : goal.find_end-requires
find_end-requires c =
    subst (IsScan c.self.inside.scan)
    (sym (behind c.deref.result.now c.self.inside.kept.items c.self.inside.start c.deref.ensures.value))
    c.self.invariant.scan_of

pub invariant_of-self : goal.invariant_of-self
invariant_of-self c =
    started c.deref.result.now c.self.inside.kept.items c.self.inside.start c.find_end.new.scan c.deref.ensures.value
    c.self.invariant.within c.find_end.ensures.scan

pub invariant_of-self-else-not-self : goal.invariant_of-self-else-not-self
invariant_of-self-else-not-self c =
    started c.deref.result.now c.self.inside.kept.items c.self.inside.start c.find_end.new.scan c.deref.ensures.value
    c.self.invariant.within c.find_end.ensures.scan

pub shorten-self-inside-requires : goal.shorten-self-inside-requires
shorten-self-inside-requires c =
    let start = c.self.inside.start in
    let kept = c.self.inside.kept.items in
    record {
      started = subst (λ (bytes : List ℕ). IsStarted bytes start c.find_end.new.scan) (sym c.deref_mut.ensures.value)
          (started c.deref.result.now kept start c.find_end.new.scan c.deref.ensures.value c.self.invariant.within
          c.find_end.ensures.scan);
      all = none_left c.find_end.result c.find_end.new.scan _ c.in_default.not-End c.find_end.ensures.all_scanned
          ∙ ap length (behind c.deref.result.now kept start c.deref.ensures.value)
          ∙ ap (λ (bytes : List ℕ). length (drop start bytes)) (sym c.deref_mut.ensures.value);
    }

pub invariant_of-self-then-not-self : goal.invariant_of-self-then-not-self
invariant_of-self-then-not-self c =
    let shorten = c.shorten-self-inside in
    let kept = c.self.inside.kept in
    let long : length shorten.new.bytes ≡ kept.len = search rules in
    subst (λ (bytes : List ℕ). IsStarted bytes shorten.result shorten.new.scan)
    (sym (take_at shorten.new.bytes (drop (length shorten.new.bytes) kept.items) kept.len long)) shorten.ensures.started

pub returns-in-Gap : goal.returns-in-Gap
returns-in-Gap c =
    let is = behind c.deref.result.now c.self.inside.kept.items c.self.inside.start c.deref.ensures.value in
    record {
      ok = (
        ap (λ (v : Unanswered). v.1) (sym c.self.view_is) ∙ c.if-not-self.false,
        c.self.view_is,
        ap (λ (v : Unanswered). is_open_gap v.0) (sym c.self.view_is) ∙ ap is_open_gap (sym is)
            ∙ c.in-Gap.ensures.found.0,
      );
      err = tt;
      finished = ap (λ (v : Unanswered). v.1) c.self.view_is;
    }

pub returns-in-Part : goal.returns-in-Part
returns-in-Part c =
    let is = behind c.deref.result.now c.self.inside.kept.items c.self.inside.start c.deref.ensures.value in
    let slice = take (length c.deref.result.now - c.self.inside.start) (drop c.self.inside.start c.deref.result.now) in
    let none = subst (λ ended. HoldsNoEntry ended slice) c.if-not-self.false c.in-Part.ensures.found.1 in
    record {
      ok = (
        ap (λ (v : Unanswered). v.1) (sym c.self.view_is) ∙ c.if-not-self.false,
        c.self.view_is,
        ap (λ (v : Unanswered). is_open_gap v.0) (sym c.self.view_is) ∙ ap is_open_gap (sym is)
            ∙ c.in-Part.ensures.found.0,
        subst (λ (v : Unanswered). HoldsNoEntry true v.0) c.self.view_is
            (subst (HoldsNoEntry true) is none),
      );
      err = tt;
      finished = ap (λ (v : Unanswered). v.1) c.self.view_is;
    }
