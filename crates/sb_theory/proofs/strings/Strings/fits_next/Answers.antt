use Rattle.sb_theory.proofs.Words.{◌+◌, ◌-◌, ◌∙◌, ◌≡◌, List, ap, arith, false≢true, get_or, length, refl, sym, ℕ, IfOk-from_err, Lit, is_true_by, number_at, regexes_kept, row_at, true≢false}
use Rattle.sb_theory.proofs.Fitting.{rises_set, rows_grown, rows_next}
use Rattle.sb_theory.proofs.Moving.{holds_kept, left_kept, looks_grown}
use Rattle.sb_theory.proofs.Rows.{put_at}
use Rattle.sb_theory.proofs.strings.Strings.fits_next.Goals as goal

pub literal_at-literal-requires : goal.literal_at-literal-requires
literal_at-literal-requires c =
    omega (
      arith,
      c.requires.more,
      c.requires.within,
      c.number_of-place.ensures ∙ ap (λ (ns : List ℕ). number_at ns c.args.serial.0) c.deref.ensures.value,
      ap (λ (rows : List (List Lit)). length (row_at rows c.args.serial.0)) c.deref-2.ensures.value,
    )

pub overflow_add-place : goal.overflow_add-place
overflow_add-place c =
    omega (
      arith,
      c.ranges.long.fits,
      c.requires.more,
      c.number_of-place.ensures ∙ ap (λ (ns : List ℕ). number_at ns c.args.serial.0) c.deref.ensures.value,
    )

pub fits-requires : goal.fits-requires
fits-requires c =
    let h = c.requires.holds in record { regexes = h.regexes; formed = h.formed; store = h.store }

pub returns-in_err-matches : goal.returns-in_err-matches
returns-in_err-matches c =
    let r = c.from_residual in
    record {
      ok = IfOk-from_err r.result _ r.ensures.0;
      looks = looks_grown c.requires.holds c.in_err-matches.ensures.grows refl refl refl;
      words = refl;
    }

pub returns-then-not-matches : goal.returns-then-not-matches
returns-then-not-matches c =
    let grows = c.in_ok-matches.ensures.grows in
    record {
      ok = record {
        holds = holds_kept grows refl c.requires.holds;
        fits = λ found. absurd (false≢true found);
        stays = λ none. refl;
        rises = λ y. omega arith;
      };
      looks = looks_grown c.requires.holds grows refl refl refl;
      words = refl;
    }

pub returns-in_err-put_number : goal.returns-in_err-put_number
returns-in_err-put_number c =
    let r = c.from_residual-in_err-put_number in
    record {
      ok = IfOk-from_err r.result _ r.ensures.0;
      looks = looks_grown c.requires.holds c.in_ok-matches.ensures.grows refl refl refl;
      words = refl;
    }

pub returns : goal.returns
returns c =
    let x = c.args.self.now in
    let h = c.requires.holds in
    let n = c.args.serial.0 in
    let e = c.in_ok-matches.ensures in
    let set = c.in_ok-put_number.ensures in
    let l = c.literal_at-literal.result in
    let long = c.number_of-place.result in
    let number : long ≡ number_at x.fitting.items n =
    c.number_of-place.ensures ∙ ap (λ (ns : List ℕ). number_at ns n) c.deref.ensures.value in
    let index : long + 1 - 1 ≡ long = omega arith in
    let looks = looks_grown h e.grows refl refl refl in
    record {
      ok = record {
        holds = record {
          store = e.grows.right h.store;
          regexes = regexes_kept x.store.arena c.fits.new.store.arena x.atoms e.grows.more.extends h.regexes;
          formed = h.formed;
          noted = h.noted;
          among = h.among;
          rows = rows_grown e.grows.more.extends h.regexes
              (rows_next c.put_number.new.numbers.items n (long + 1) l set (omega (arith, number))
              (omega (arith, number, c.requires.more, c.requires.within))
              (c.literal_at-literal.ensures
              ∙ ap (λ (rows : List (List Lit)). get_or (row_at rows n) long l) c.deref-2.ensures.value
              ∙ ap (λ i. get_or (row_at x.members.items n) i l) (sym index))
              (ap (λ ws. is_true_by x.store.arena x.atoms ws l) (sym c.deref-3.ensures.value)
              ∙ sym e.fits ∙ c.if-not-matches.false) h.rows);
          joined = h.joined;
          left = λ a noted joined. left_kept looks.keeps a (h.left a noted joined);
        };
        fits = λ found.
            put_at (number_at c.put_number.new.numbers.items) (number_at x.fitting.items) (λ y. long + 1) n set
            ∙ ap (λ m. m + 1) number;
        stays = λ none. absurd (true≢false none);
        rises = rises_set x.fitting.items c.put_number.new.numbers.items n (long + 1) set (omega (arith, number));
      };
      looks = looks;
      words = refl;
    }
