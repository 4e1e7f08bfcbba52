-- What stays true of the rows, their literals and their lists.
use Rattle.std.proofs.Common.{◌≡◌, ℕ, Bool, true, false, List, [], ◌∷◌, ◌++◌, ◌||◌, length, map, get_or, set, cond, ◌<◌, Option, Some, None, refl, sym, ◌∙◌, ap, subst, inl, inr, arith}
use Rattle.std.specs.HashMap.{HashMap, get}
use Rattle.std.specs.List.{list_any}
use Rattle.std.proofs.lemmas.Bool.{false≢true, cases_Bool, or_left}
use Rattle.std.specs.Map.{lookup}
use Rattle.std.proofs.lemmas.List.{length-map, map_push, length-append}
use Rattle.sb_lit.specs.declared.clause.Lit.{Lit}
use Rattle.sb_lit.specs.Clauses.{is_among}
use Rattle.sb_lit.specs.Hints.{has_only, is_repeated}
use Rattle.sb_lit.specs.Kept.{Kept, KeptClause, kept_at}
use Rattle.sb_lit.proofs.CallerLemmas.{is_same_literal-true, is_same_literal-beq}
use Rattle.sb_hints.specs.declared.rows.Row.{Row}
use Rattle.sb_hints.specs.declared.lists.Listed.{Listed}
use Rattle.sb_hints.specs.Storing.{before_of, row_at, emptied, place_in, kept_in, AreSame}
use Rattle.sb_hints.specs.Listing.{are_equal, newest_in, last_of, last_at, put_at, passed_at, begun_at, IsPlace, IsBelow, on_list, passes_in, AreListed}
use Rattle.sb_hints.specs.Dropping.{goes, without}
use Rattle.sb_hints.specs.Keeping.{AreStored, AreInOrder}
use Rattle.sb_hints.proofs.Storage.{kept_at-row, slice-new, kept-grown, within-more, within_push, within-set, kept-emptied, before-emptied, kept-none, within-none}
use Rattle.sb_hints.proofs.Scoping.{at_emptied, none_at}
use Rattle.sb_hints.proofs.Searching.{listed_push, listed_fewer, repeated-finds, passes-only}

-- the lists of a map with the same entries
pub lists_same : {S : Type 0} (old new : HashMap Lit Listed S) (bare : Option ℕ) → new.entries ≡ old.entries
    → (q : Option Lit) → last_at new bare q ≡ last_at old bare q
lists_same old new bare same None = refl
lists_same old new bare same (Some l) = ap (λ es. newest_in (lookup (are_equal l) es)) same

pub listed_lists : (kept : Kept) (before : List (Option ℕ)) (lists later : Option Lit → Option ℕ)
    → ((q : Option Lit) → later q ≡ lists q) → AreListed kept before lists → AreListed kept before later
listed_lists kept before lists later same h = record {
  linked = h.linked;
  below = λ q. rw (same q) (h.below q);
  listed = λ id clause there.
      let was = h.listed id clause there in
      record {
        place = was.place;
        fits = was.fits;
        found = λ p passes. rw (same was.place) (was.found p passes);
      };
}

pub stored_lists : (ls : List Lit) (rows : List Row) (lists later : Option Lit → Option ℕ)
    → ((q : Option Lit) → later q ≡ lists q) → AreStored ls rows lists → AreStored ls rows later
stored_lists ls rows lists later same h = record {
  within = h.within;
  listed = listed_lists (kept_in ls rows) (map before_of rows) lists later same h.listed;
}

-- a list that begins with the clause before this one
pub lists_begun : {S : Type 0} (old new : HashMap Lit Listed S) (bare : Option ℕ) (l : Lit) (number : ℕ)
    (before : Option ℕ) (list shorter : Listed) → get are_equal old l ≡ Some list
    → shorter.last ≡ passed_at number before list.last
    → ((m : Lit) → get are_equal new m ≡ cond (are_equal l m) (Some shorter) (get are_equal old m))
    → (q : Option Lit) → last_at new bare q ≡ begun_at (Some l) number before (last_at old bare) q
lists_begun old new bare l number before list shorter there last put None = refl
lists_begun old new bare l number before list shorter there last put (Some m) =
    elim (cases_Bool (are_equal l m)) [
      | inl same ↦
          let e : l ≡ m = is_same_literal-true l m (sym (is_same_literal-beq l m) ∙ same) in
          ap newest_in (put m) ∙ rw same
          (last ∙ ap (λ o. passed_at number before (newest_in o))
          (sym there ∙ ap (λ k. get are_equal old k) e))
      | inr other ↦ ap newest_in (put m) ∙ rw other refl
    ]

-- more literals
pub stored_more : (ls more : List Lit) (rows : List Row) (lists : Option Lit → Option ℕ) → AreStored ls rows lists
    → AreStored (ls ++ more) rows lists
stored_more ls more rows lists h = record {
  within = within-more ls more rows h.within;
  listed = rw (kept-grown ls more rows h.within) h.listed;
}

-- one clause more
module _ (ls : List Lit) (rows : List Row) (lists later : Option Lit → Option ℕ) (clause : List Lit)
    (place : Option Lit) (row : Row) (h : AreStored ls rows lists) (at_start : row.start ≡ length ls)
    (at_end : row.end ≡ length (ls ++ clause)) (is_kept : row.is_kept ≡ true) (leads : row.before ≡ lists place) where
  abbrev pub new_clause : KeptClause
  new_clause = record { literals = clause; level = row.level }

  new_place : place_in (ls ++ clause) row ≡ Some new_clause
  new_place = rw (is_kept, at_start, at_end, slice-new ls clause) refl

  pub kept_push : kept_in (ls ++ clause) (rows ++ row ∷ []) ≡ kept_in ls rows ++ Some new_clause ∷ []
  kept_push =
      map_push (place_in (ls ++ clause)) rows row
      ∙ ap (λ (kept : Kept). kept ++ place_in (ls ++ clause) row ∷ []) (kept-grown ls clause rows h.within)
      ∙ ap (λ (last : Option KeptClause). kept_in ls rows ++ last ∷ []) new_place

  pub stored_push : IsPlace clause place → ((q : Option Lit) → later q ≡ put_at place (length rows) lists q)
      → AreStored (ls ++ clause) (rows ++ row ∷ []) later
  stored_push fits put = record {
    within = within_push (length (ls ++ clause)) rows row (within-more ls clause rows h.within) (record {
      ordered = omega (arith, at_start, at_end, length-append ls clause);
      inside = omega (arith, at_end);
    });
    listed = rw (kept_push, map_push before_of rows row, leads)
        (listed_push (kept_in ls rows) (map before_of rows) lists later new_clause place
        (length-map rows (place_in ls) ∙ sym (length-map rows before_of)) fits h.listed
        (λ q. put q ∙ ap (λ n. put_at place n lists q) (sym (length-map rows before_of))));
  }

-- a clause that goes or stays
pub row_without : (down_to : Option ℕ) (ls : List Lit) (rows : List Row) (k : ℕ) (row : Row) → k < length rows
    → row ≡ get_or rows k row → (b : Bool) → b ≡ goes down_to (place_in ls row)
    → without down_to k (kept_in ls rows) ≡ cond b (set (kept_in ls rows) k None) (kept_in ls rows)
row_without down_to ls rows k row inside is b tells =
    ap (λ (test : Bool). cond test (set (kept_in ls rows) k None) (kept_in ls rows))
    (ap (goes down_to) (kept_at-row ls rows k row inside ∙ ap (place_in ls) (sym is)) ∙ sym tells)

-- a clause less
module _ (ls : List Lit) (rows mid new : List Row) (k : ℕ)
    (is : mid ≡ set rows k (emptied (row_at rows k))) (same : AreSame mid new) where
  pub kept_less : kept_in ls new ≡ set (kept_in ls rows) k None
  kept_less = same.kept ls ∙ ap (kept_in ls) is ∙ kept-emptied ls rows k

  pub stored_less : (lists later : Option Lit → Option ℕ) → AreStored ls rows lists
      → ((kept : Kept) → kept_at kept k ≡ None → AreListed kept (map before_of mid) lists
      → AreListed kept (map before_of new) later)
      → AreStored ls new later
  stored_less lists later h off =
      let fewer : Kept = set (kept_in ls rows) k None in
      record {
        within = same.within (length ls) (rw is
            (within-set (length ls) rows k (emptied (row_at rows k)) h.within (λ kept. absurd (false≢true kept))));
        listed = rw kept_less (off fewer (none_at (kept_in ls rows) k) (rw (is, before-emptied rows k)
            (listed_fewer (kept_in ls rows) fewer (map before_of rows) lists
            (λ id clause there. (at_emptied (kept_in ls rows) k id clause there).0) h.listed)));
      }

-- rows that stand for the same clauses, in the same lists
pub order_same : (ls : List Lit) (rows new : List Row) (lists : Option Lit → Option ℕ) (heap : List (ℕ × ℕ))
    → AreSame rows new → map before_of new ≡ map before_of rows → AreInOrder ls rows lists heap
    → AreInOrder ls new lists heap
order_same ls rows new lists heap same before h = record {
  stored = record {
    within = same.within (length ls) h.stored.within;
    listed = rw (same.kept ls, before) h.stored.listed;
  };
  scoped = rw (same.kept ls) h.scoped;
}

-- where no clause is kept
pub order_none : (ls more : List Lit) (rows : List Row) (lists : Option Lit → Option ℕ) (scoped : List (ℕ × ℕ))
    → ((id : ℕ) → kept_at (kept_in ls rows) id ≡ None) → AreInOrder ls rows lists scoped
    → AreInOrder more rows lists scoped
order_none ls more rows lists scoped none h = record {
  stored = record {
    within = within-none ls (length more) rows none;
    listed = rw (kept-none ls more rows none) h.stored.listed;
  };
  scoped = rw (kept-none ls more rows none) h.scoped;
}

-- a clause that is repeated
module _ {S : Type 0} (ls : List Lit) (rows : List Row) (lists : HashMap Lit Listed S) (bare : Option ℕ) (kept : Kept)
    (clause : List Lit) (has : Lit → Bool) (view : kept_in ls rows ≡ kept) (h : AreStored ls rows (last_at lists bare))
    (set : (l : Lit) → has l ≡ is_among clause l) where
  abbrev finds : ℕ → Option ℕ → Bool
  finds n newest = on_list (passes_in has (kept_in ls rows)) (map before_of rows) n newest

  either : is_repeated kept clause
      ≡ (finds (length rows) bare || list_any (λ l. finds (length rows) (last_of lists l)) clause)
  either =
      ap (λ (all : Kept). is_repeated all clause) (sym view)
      ∙ repeated-finds (kept_in ls rows) (map before_of rows) (last_at lists bare) clause has h.listed set
      ∙ ap (λ n. finds n bare || list_any (λ l. finds n (last_of lists l)) clause) (length-map rows before_of)

  pub repeats_bare : true ≡ finds (length rows) bare → true ≡ is_repeated kept clause
  repeats_bare found =
      sym (either ∙ or_left (finds (length rows) bare) (list_any (λ l. finds (length rows) (last_of lists l)) clause)
      (sym found))

  pub repeats_under : false ≡ finds (length rows) bare → (b : Bool)
      → b ≡ list_any (λ l. finds (length rows) (last_of lists l)) clause → b ≡ is_repeated kept clause
  repeats_under none b is =
      is ∙ ap (λ a. a || list_any (λ l. finds (length rows) (last_of lists l)) clause) none ∙ sym either

  pub part_is : (id : ℕ) → passes_in has (kept_in ls rows) id ≡ true → has_only clause (kept_at kept id) ≡ true
  part_is id passes =
      ap (λ (all : Kept). has_only clause (kept_at all id)) (sym view)
      ∙ passes-only has clause set (kept_at (kept_in ls rows) id) ∙ passes

pub all_below : (ls : List Lit) (rows : List Row) (lists : Option Lit → Option ℕ) → AreStored ls rows lists
    → (q : Option Lit) → IsBelow (length rows) (lists q)
all_below ls rows lists h q = subst (λ n. IsBelow n (lists q)) (length-map rows before_of) (h.listed.below q)
