-- What is known of the assertions so far, as more of it becomes known.
use Rattle.sb_decide.proofs.Words.{◌≡◌, ℕ, zero, suc, ◌<◌, ◌≤◌, Bool, true, false, ◌==◌, nat_lt, List, [], ◌∷◌, ◌++◌, length, get_or, slice_get, map, take, refl, sym, ap, ◌∙◌, arith, Option, Some, None, IfSome, if◌then◌else◌, subst, subst₂, vec_len, append-nil, length-append, ◌-◌, All, All-nil, All-pop, All-push, All-same, AreHeard, AreKept, AreMembers, AreRooted, Assertion, Conjoined, Contains, Decider, Extends, Found, Global, Grows, HasNumberBelow, HasRegexBelow, HasRoom, HasSerialBelow, IsChangedAt, IsEmptyAt, IsLeastOf, IsLonger, IsMember, IsOther, IsRegexOf, IsStoreOf, IsTaken, IsTakenAs, Knows, KnowsGrown, Member, NormalsStay, Regex, RestSettled, Serial, Stacked, StayKept, Store, Term, Vec, a_mark, all_below, and_parts, asserted, assertion_in, assertion_of, conjoined_at, demanded, eqb-false, extends_same, has_serials_below, ids_in, is_decided, is_settled, list_all, nat_tests, nil_from_length, other_dead, other_places, places_in, places_of, slice_get_within, take-append-le, term_at, without_last, without_place, word_at}
use Rattle.sb_term.specs.declared.assertion.Assertion as code
use Rattle.sb_term.specs.Numbered as table
use Rattle.sb_term.proofs.CallerLemmas as table_facts
use Rattle.sb_decide.proofs.Constants.{last_gone, places_back, IsPut}
use Rattle.sb_decide.proofs.DemandFacts.{demanded_below}
use Rattle.sb_decide.proofs.Hearing.{heard_none, heard_same, heard_told}
use Rattle.sb_decide.proofs.KeptWords.{ids_long, known_fewer, least_fewer, least_grown, least_more, least_of_none}
use Rattle.sb_decide.proofs.MemberFacts.{by_number, same_left, members_moved, members_told, members_few, members_pushed, members_popped, ids_below, ids_here, ids_other, places_here, others_below, empty_grown, empty_pushed, empty_same, ids_append, places_append, others_append, regex_below}
use Rattle.sb_decide.proofs.RootFacts.{rooted_grown, rooted_pushed, rooted_popped}
use Rattle.sb_fragment.specs.declared.keeper.Fragment.{Fragment}
use Rattle.sb_fragment.specs.Inside.{AreInside}
use Rattle.sb_fragment.proofs.CallerLemmas.{inside_none, inside_stays, inside_left}
use Rattle.sb_store.proofs.CallerLemmas.{more_terms}
use Rattle.std.specs.Prelude.{min}

-- of a constant, if there is one
pub some_more : (P Q : ℕ → Type 0) → ((n : ℕ) → P n → Q n) → (dead : Option Serial) → IfSome dead (λ s. P s.0)
    → IfSome dead (λ s. Q s.0)
some_more P Q more None h = tt
some_more P Q more (Some serial) h = more serial.0 h

dead_kept : (old new : List Regex) (ms : List (Option Member)) (dead : Option Serial) → Extends old new
    → All (HasRegexBelow (length old)) ms → IfSome dead (λ s. IsEmptyAt old ms s.0)
    → IfSome dead (λ s. IsEmptyAt new ms s.0)
dead_kept old new ms dead e known h = some_more (IsEmptyAt old ms) (IsEmptyAt new ms)
    (λ n. empty_grown old new ms n e known) dead h

pub kept_grown : (rs new : List Regex) (ms : List (Option Member)) (cs : List Conjoined) (words : List (List ℕ))
    → Extends rs new → All (HasRegexBelow (length rs)) ms → AreKept rs ms cs words → AreKept new ms cs words
kept_grown rs new ms cs words e known kept = record {
  characters = kept.characters;
  few = kept.few;
  least = λ n k h. least_grown rs new (ids_in ms n) k (word_at words n) e (ids_below rs ms n known) (kept.least n k h);
}

-- more becomes known of regexes and of terms
taken_known : (kept : Decider) (store : Store) (roots : Vec (Option ℕ) Global) (fs : Vec Found Global)
    (ts : List Term) (xs : List code.Assertion) → Grows ts kept.store store →
    AreRooted store.arena kept.members.items roots.items → IsTaken kept ts xs →
    IsTaken (record kept { store = store; roots = roots; found = fs }) ts xs
taken_known kept store roots fs ts xs grows rooted t = record {
  store = grows.right t.store;
  members = members_moved kept.store.arena store.arena ts ts kept.members.items xs grows.more.extends
      (table_facts.extends_same ts) t.members;
  rooted = rooted;
  counted = t.counted;
  dead = dead_kept kept.store.arena store.arena kept.members.items kept.dead grows.more.extends t.rooted.numbers t.dead;
  heard = t.heard;
}

pub knows_known : (kept : Decider) (store : Store) (roots : Vec (Option ℕ) Global) (fs : Vec Found Global)
    (stack : Stacked) → Grows stack.table kept.store store → AreRooted store.arena kept.members.items roots.items →
    Knows kept stack → Knows (record kept { store = store; roots = roots; found = fs }) stack
knows_known kept store roots fs stack grows rooted k = record {
  inside = k.inside;
  taken = taken_known kept store roots fs stack.table stack.assertions grows rooted k.taken;
  words = kept_grown kept.store.arena store.arena kept.members.items kept.constants.items stack.words grows.more.extends
      k.taken.rooted.numbers k.words;
  declared = k.declared;
}

-- and nothing else
pub taken_grown : (kept : Decider) (store : Store) (ts : List Term) (xs : List code.Assertion)
    → Grows ts kept.store store → IsTaken kept ts xs → IsTaken (record kept { store = store }) ts xs
taken_grown kept store ts xs grows t =
    taken_known kept store kept.roots kept.found ts xs grows
    (rooted_grown kept.store.arena store.arena kept.members.items kept.roots.items grows.more.extends t.rooted) t

pub knows_grown : KnowsGrown
knows_grown kept store stack grows k =
    knows_known kept store kept.roots kept.found stack grows
    (rooted_grown kept.store.arena store.arena kept.members.items kept.roots.items grows.more.extends k.taken.rooted) k

-- there is room for more constants
serial_more : (n k : ℕ) (o : Option Member) → n ≤ k → HasSerialBelow n o → HasSerialBelow k o
serial_more n k None l h = tt
serial_more n k (Some m) l h = omega (arith, l, h)

pub taken_roomy : (kept : Decider) (constants : Vec Conjoined Global) (count : ℕ) (ts : List Term)
    (xs : List code.Assertion) → HasRoom count kept.constants.items constants.items →
    length kept.constants.items ≤ count → IsTaken kept ts xs → IsTaken (record kept { constants = constants }) ts xs
taken_roomy kept constants count ts xs room l t = record {
  store = t.store;
  members = t.members;
  rooted = t.rooted;
  counted = record {
    within = λ k d m. serial_more (length kept.constants.items) (length constants.items)
        (get_or kept.members.items k d) (omega (arith, room.long, l)) (t.counted.within k d m);
    places = λ n. ap (λ (c : Conjoined). c.places) (room.same n) ∙ t.counted.places n;
    apart = t.counted.apart;
    settled = λ n h j. ap is_settled (room.same n) ∙ t.counted.settled n h j;
    left_listed = λ k d m. let low = t.counted.left_listed k d m in omega (arith, room.long, l, low);
    listed = λ k d m. let low = t.counted.listed k d m in omega (arith, room.long, l, low);
  };
  dead = t.dead;
  heard = t.heard;
}

pub kept_roomy : (rs : List Regex) (ms : List (Option Member)) (old new : List Conjoined) (count : ℕ)
    (words : List (List ℕ)) → HasRoom count old new → length old ≤ count → AreKept rs ms old words
    → AreKept rs ms new words
kept_roomy rs ms old new count words room l kept = record {
  characters = kept.characters;
  few = omega (arith, kept.few, room.long, l);
  least = λ n k h. kept.least n k (sym (ap (λ (c : Conjoined). c.known) (room.same n)) ∙ h);
}

-- one more is taken in
kept_more : (rs : List Regex) (ms : List (Option Member)) (o : Option Member) (place : ℕ) (old new : List Conjoined)
    (words : List (List ℕ)) → IsPut o place old new → AreKept rs ms old words → AreKept rs (ms ++ o ∷ []) new words
kept_more rs ms o place old new words put kept = record {
  characters = kept.characters;
  few = omega (arith, kept.few, put.long);
  least = λ n k h. subst (λ ids. IsLeastOf rs ids k (word_at words n)) (sym (ids_append ms (o ∷ []) n))
      (least_more rs (ids_in ms n) (ids_in (o ∷ []) n) k (word_at words n) (kept.least n k (sym (put.known n) ∙ h)));
}

pub stay_put : (old new : Decider) (o : Option Member) (place : ℕ) → new.members.items ≡ old.members.items ++ o ∷ []
    → IsPut o place old.constants.items new.constants.items
    → ((words : List (List ℕ)) → AreKept old.store.arena old.members.items old.constants.items words
    → AreKept new.store.arena old.members.items old.constants.items words) → StayKept old new
stay_put old new o place members put grown words k = (
  put.long,
  rw members (kept_more new.store.arena old.members.items o place old.constants.items new.constants.items words put
      (grown words k)),
)

pub stay_grown : (old : Decider) (rs : List Regex) (ts : List Term) (xs : List code.Assertion)
    → Extends old.store.arena rs → IsTaken old ts xs → (words : List (List ℕ))
    → AreKept old.store.arena old.members.items old.constants.items words
    → AreKept rs old.members.items old.constants.items words
stay_grown old rs ts xs e t words k =
    kept_grown old.store.arena rs old.members.items old.constants.items words e t.rooted.numbers k

pub taken_more : (kept : Decider) (ts : List Term) (xs : List code.Assertion) (x : code.Assertion)
    (o : Option Member) (members : Vec (Option Member) Global) (roots : Vec (Option ℕ) Global)
    (others : Vec ℕ Global) (constants : Vec Conjoined Global) (changed : Vec Serial Global) → IsTaken kept ts xs →
    length kept.members.items < length xs → x ≡ get_or xs (length kept.members.items) x →
    IsTakenAs kept.store.arena ts o x → HasSerialBelow (length kept.constants.items) o →
    members.items ≡ kept.members.items ++ o ∷ [] → roots.items ≡ kept.roots.items ++ None ∷ [] →
    others.items ≡ kept.others.items ++ other_places (length kept.members.items) (o ∷ []) →
    IsPut o (length kept.members.items) kept.constants.items constants.items →
    RestSettled kept.left.items changed.items constants.items →
    All (λ other. other.0 < length kept.constants.items) changed.items → IsTaken
    (record kept { members = members; roots = roots; others = others; constants = constants; changed = changed }) ts xs
taken_more kept ts xs x o members roots others constants changed t low is one within more none apart put settled listed
    = record {
      store = t.store;
      members = subst (λ os. AreMembers kept.store.arena ts os xs) (sym more)
          (members_pushed kept.store.arena ts ms xs o x low is one t.members);
      rooted = subst₂ (AreRooted kept.store.arena) (sym more) (sym none)
          (rooted_pushed kept.store.arena ms o kept.roots.items (regex_below kept.store.arena ts o x one) t.rooted);
      counted = rw more (record {
        within = rw put.long (All-push (HasSerialBelow (length kept.constants.items)) ms o t.counted.within within);
        places = λ n. put.places n
            ∙ (ap (λ ps. ps ++ places_in (length ms) n (o ∷ [])) (t.counted.places n)
            ∙ sym (places_append 0 n ms (o ∷ []) (length ms) (omega arith)));
        apart = apart
            ∙ (ap (λ ps. ps ++ other_places (length ms) (o ∷ [])) t.counted.apart
            ∙ sym (others_append 0 ms (o ∷ []) (length ms) (omega arith)));
        settled = settled;
        left_listed = rw put.long t.counted.left_listed;
        listed = rw put.long listed;
      });
      dead = subst (λ os. IfSome kept.dead (λ s. IsEmptyAt kept.store.arena os s.0)) (sym more)
          (some_more (IsEmptyAt kept.store.arena ms) (IsEmptyAt kept.store.arena (ms ++ o ∷ []))
          (λ n h. empty_pushed kept.store.arena ms (o ∷ []) n h) kept.dead t.dead);
      heard =
          let last = other_places (length ms) (o ∷ []) in
          let long = length-append kept.others.items last in
          heard_same ts xs kept.others.items others.items kept.heard kept.spoken.keys
          (ap (take kept.heard) apart ∙ take-append-le kept.heard kept.others.items last t.heard.within)
          (omega (arith, t.heard.within, ap length apart, long)) t.heard;
    }
  where
    ms : List (Option Member)
    ms = kept.members.items

-- and one less
kept_back : (rs : List Regex) (ms : List (Option Member)) (old new : List Conjoined) (m : Member)
    (words : List (List ℕ)) → ((n : ℕ) → (conjoined_at old n).places ≡ places_in 0 n (ms ++ Some m ∷ []))
    → IsChangedAt old new m.serial.0 (without_place (conjoined_at old m.serial.0))
    → AreKept rs (ms ++ Some m ∷ []) old words → AreKept rs ms new words
kept_back rs ms old new m words places p kept = record {
  characters = kept.characters;
  few = omega (arith, kept.few, p.same_length);
  least = by_number (λ n. (k : ℕ) → (conjoined_at new n).known ≡ Some k
      → IsLeastOf rs (ids_in ms n) k (word_at words n)) m.serial.0 here
      (λ n e k h. subst (λ ids. IsLeastOf rs ids k (word_at words n)) (ids_other ms m n e)
      (kept.least n k (sym (ap (λ (c : Conjoined). c.known) (p.others n e)) ∙ h)));
}
  where
    left : without_last (conjoined_at old m.serial.0).places ≡ places_in 0 m.serial.0 ms
    left = ap without_last (places m.serial.0 ∙ places_here m.serial.0 ms m refl)
        ∙ last_gone (places_in 0 m.serial.0 ms) (length ms)

    here : (k : ℕ) → (conjoined_at new m.serial.0).known ≡ Some k
        → IsLeastOf rs (ids_in ms m.serial.0) k (word_at words m.serial.0)
    here k h =
        let fewer = known_fewer (length (without_last (conjoined_at old m.serial.0).places))
        (conjoined_at old m.serial.0).known k (sym (ap (λ (c : Conjoined). c.known) p.there) ∙ h) in
        least_fewer rs (ids_in ms m.serial.0) (m.regex ∷ []) k (word_at words m.serial.0)
        (omega (arith, fewer.1, ap length left, ids_long ms m.serial.0))
        (subst (λ ids. IsLeastOf rs ids k (word_at words m.serial.0)) (ids_here ms m m.serial.0 refl)
        (kept.least m.serial.0 k fewer.0))

-- the last one is no membership
kept_same : (rs : List Regex) (ms ms' : List (Option Member)) (cs : List Conjoined) (words : List (List ℕ))
    → ((n : ℕ) → ids_in ms' n ≡ ids_in ms n) → AreKept rs ms cs words → AreKept rs ms' cs words
kept_same rs ms ms' cs words same kept = record {
  characters = kept.characters;
  few = kept.few;
  least = λ n k h. subst (λ ids. IsLeastOf rs ids k (word_at words n)) (sym (same n)) (kept.least n k h);
}

-- the last one is taken back
dead_back : (rs : List Regex) (ms : List (Option Member)) (m : Member) (dead : Option Serial)
    → IfSome dead (λ s. IsEmptyAt rs (ms ++ Some m ∷ []) s.0)
    → IfSome (other_dead dead m.serial.0) (λ s. IsEmptyAt rs ms s.0)
dead_back rs ms m None h = tt
dead_back rs ms m (Some s) h = by_test (s.0 == m.serial.0) refl
  where
    by_test : (b : Bool) → (s.0 == m.serial.0) ≡ b
        → IfSome (if b then None else Some s) (λ (d : Serial). IsEmptyAt rs ms d.0)
    by_test true k = tt
    by_test false k =
        empty_same rs (ms ++ Some m ∷ []) ms s.0 (sym (ids_other ms m s.0 (eqb-false s.0 m.serial.0 k))) h

-- its constant is one of those that are known
pub last_within : (kept : Decider) (m : Member) (ms : List (Option Member)) (stack : Stacked)
    → kept.members.items ≡ ms ++ Some m ∷ [] → Knows kept stack → m.serial.0 < length kept.constants.items
last_within kept m ms stack was k =
    (All-pop (HasSerialBelow (length kept.constants.items)) kept.members.items ms (Some (Some m)) was
    k.taken.counted.within).1

pub knows_back : (kept : Decider) (m : Member) (members : Vec (Option Member) Global)
    (roots : Vec (Option ℕ) Global) (constants : Vec Conjoined Global) (changed : Vec Serial Global)
    (dead : Option Serial) (stack : Stacked) → kept.members.items ≡ members.items ++ Some m ∷ [] →
    roots.items ≡ take (length members.items) kept.roots.items → dead ≡ other_dead kept.dead m.serial.0 →
    IsChangedAt kept.constants.items constants.items m.serial.0
    (without_place (conjoined_at kept.constants.items m.serial.0)) →
    (RestSettled kept.left.items kept.changed.items kept.constants.items →
    RestSettled kept.left.items changed.items constants.items) →
    (All (λ other. other.0 < length kept.constants.items) kept.changed.items →
    All (λ other. other.0 < length kept.constants.items) changed.items) → Knows kept stack → Knows
    (record kept { members = members; roots = roots; constants = constants; changed = changed; dead = dead }) stack
knows_back kept m members roots constants changed dead stack was front gone put settled listed k = record {
  inside = k.inside;
  taken = record {
    store = t.store;
    members = members_popped kept.store.arena stack.table ms stack.assertions (Some m) (rw was at t.members);
    rooted = subst (AreRooted kept.store.arena ms) (sym front)
        (rooted_popped kept.store.arena ms (Some m) kept.roots.items (rw was at t.rooted));
    counted = record {
      within = rw put.same_length
          (All-pop (HasSerialBelow (length kept.constants.items)) kept.members.items ms (Some (Some m)) was
          t.counted.within).0;
      places = λ n. places_back kept.constants.items constants.items ms m n places put;
      apart = t.counted.apart ∙ ap (other_places 0) was
          ∙ others_append 0 ms (Some m ∷ []) (length ms) (omega arith) ∙ append-nil (other_places 0 ms);
      settled = settled t.counted.settled;
      left_listed = rw put.same_length t.counted.left_listed;
      listed = rw put.same_length (listed t.counted.listed);
    };
    dead = subst (λ d. IfSome d (λ s. IsEmptyAt kept.store.arena ms s.0)) (sym gone)
        (dead_back kept.store.arena ms m kept.dead (rw was at t.dead));
    heard = t.heard;
  };
  words = kept_back kept.store.arena ms kept.constants.items constants.items m stack.words places put
      (rw was at k.words);
  declared = omega (arith, k.declared, put.same_length);
}
  where
    t : IsTaken kept stack.table stack.assertions
    t = k.taken

    ms : List (Option Member)
    ms = members.items

    places : (n : ℕ) → places_of kept n ≡ places_in 0 n (ms ++ Some m ∷ [])
    places n = t.counted.places n ∙ ap (places_in 0 n) was

-- and where it is no membership
pub knows_back_other : (kept d : Decider) (stack : Stacked) → kept.members.items ≡ d.members.items ++ None ∷ [] →
    d.roots.items ≡ take (vec_len kept.roots - 1) kept.roots.items →
    d.others.items ≡ take (vec_len kept.others - 1) kept.others.items →
    (AreHeard stack.table stack.assertions kept.others.items kept.heard kept.spoken.keys
    → AreHeard stack.table stack.assertions d.others.items d.heard d.spoken.keys) → Knows kept stack → Knows
    (record kept { members = d.members; roots = d.roots; others = d.others; spoken = d.spoken; heard = d.heard }) stack
knows_back_other kept d stack was front rest fewer k = record {
  inside = k.inside;
  taken = record {
    store = t.store;
    members = members_popped kept.store.arena stack.table ms stack.assertions None (rw was at t.members);
    rooted = subst (AreRooted kept.store.arena ms) (sym (front ∙ ap (λ n. take n kept.roots.items) few))
        (rooted_popped kept.store.arena ms None kept.roots.items (rw was at t.rooted));
    counted = record {
      within = (All-pop (HasSerialBelow (length kept.constants.items)) kept.members.items ms (Some None) was
          t.counted.within).0;
      places = λ n. t.counted.places n
          ∙ (ap (places_in 0 n) was ∙ (places_append 0 n ms (None ∷ []) (length ms) (omega arith)
          ∙ append-nil (places_in 0 n ms)));
      apart = rest ∙ ap (λ n. take (n - 1) kept.others.items) kept.others.ok.0
          ∙ ap without_last (t.counted.apart ∙ ap (other_places 0) was
          ∙ others_append 0 ms (None ∷ []) (length ms) (omega arith)) ∙ last_gone (other_places 0 ms) (length ms);
      settled = t.counted.settled;
      left_listed = t.counted.left_listed;
      listed = t.counted.listed;
    };
    dead = some_more (IsEmptyAt kept.store.arena (ms ++ None ∷ [])) (IsEmptyAt kept.store.arena ms)
        (λ n h. empty_same kept.store.arena (ms ++ None ∷ []) ms n (sym (same n)) h) kept.dead (rw was at t.dead);
    heard = fewer t.heard;
  };
  words = kept_same kept.store.arena (ms ++ None ∷ []) ms kept.constants.items stack.words (λ n. sym (same n))
      (rw was at k.words);
  declared = k.declared;
}
  where
    t : IsTaken kept stack.table stack.assertions
    t = k.taken

    ms : List (Option Member)
    ms = d.members.items

    few : vec_len kept.roots - 1 ≡ length ms
    few = omega (arith, t.rooted.abreast, ap length was, length-append ms (None ∷ []), kept.roots.ok.0)

    same : (n : ℕ) → ids_in (ms ++ None ∷ []) n ≡ ids_in ms n
    same n = ids_append ms (None ∷ []) n ∙ append-nil (ids_in ms n)

-- the assertion at the next place
pub at_place : (v : Vec (Option Member) Global) (xs : List code.Assertion) (i : ℕ) (x : code.Assertion) → i ≡ vec_len v
    → x ≡ get_or xs i x → x ≡ get_or xs (length v.items) x
at_place v xs i x same is =
    let e : i ≡ length v.items = omega (arith, same, v.ok.0) in
    subst (λ j. x ≡ get_or xs j x) e is

-- an assertion of this term, or of none, is decided where all are
pub term_decided : (ts : List Term) (xs : List code.Assertion) (i : ℕ) (x : code.Assertion) (o : Option ℕ)
    → i < length xs → x ≡ get_or xs i x → x.term ≡ o → list_all is_decided (map (assertion_in ts) xs) ≡ true
    → is_decided (assertion_of ts o) ≡ true
term_decided ts [] i x o low is there all = absurd (omega arith)
term_decided ts (y ∷ xs) zero x o low is there all =
    ap (λ p. is_decided (assertion_of ts p)) (sym there) ∙ ap (λ a. is_decided (assertion_in ts a)) is
    ∙ (and_parts (is_decided (assertion_in ts y)) (list_all is_decided (map (assertion_in ts) xs)) all).0
term_decided ts (y ∷ xs) (suc i) x o low is there all =
    term_decided ts xs i x o (omega arith) is there
    (and_parts (is_decided (assertion_in ts y)) (list_all is_decided (map (assertion_in ts) xs)) all).1

-- the next assertion is none that asks for one constant's word alone
pub is_other : (ts : List Term) (xs : List code.Assertion) (i : ℕ) (x : code.Assertion) (id : ℕ)
    → All (HasNumberBelow (length ts)) xs → i < length xs → x ≡ get_or xs i x → x.term ≡ Some id
    → demanded (term_at ts id) ≡ None → is_decided (asserted (term_at ts id)) ≡ true → IsOther ts x
is_other ts xs i x id numbers low at there asks decided = record {
  term = term_at ts id;
  number = rw at (numbers i x low);
  is = ap (assertion_of ts) there;
  asks = asks;
  decided = decided;
}

-- its term's number is below the table's length
pub number_within : (n : ℕ) (xs : List code.Assertion) (i : ℕ) (x : code.Assertion) (id : ℕ)
    → All (HasNumberBelow n) xs → i < length xs → x ≡ get_or xs i x → x.term ≡ Some id → id < n
number_within n xs i x id numbers low is there =
    let number : HasNumberBelow n x = rw is (numbers i x low) in
    subst (λ (o : Option ℕ). IfSome o (λ j. j < n)) there number

-- the next assertion is a membership
pub is_member : (rs : List Regex) (ts : List Term) (xs : List code.Assertion) (i : ℕ) (x : code.Assertion)
    (m : Member) (id : ℕ) (R : Term) → All (HasNumberBelow (length ts)) xs → i < length xs → x ≡ get_or xs i x →
    x.term ≡ Some id → demanded (term_at ts id) ≡ Some (m.serial.0, R) →
    is_decided (asserted (term_at ts id)) ≡ true → IsRegexOf rs R m.regex → IsMember rs ts m x
is_member rs ts xs i x m id R numbers low at there asks decided regex = record {
  term = term_at ts id;
  wanted = R;
  number = rw at (numbers i x low);
  is = ap (assertion_of ts) there;
  asks = asks;
  decided = decided;
  regex = regex;
}

-- each constant's serial is below the number of constants
pub below_in : (n : ℕ) (ts : List Term) (a : Assertion) (o : Option ℕ) → all_below n ts ≡ true
    → IfSome o (λ id. id < length ts) → a ≡ assertion_of ts o → (t : Term) → a ≡ asserted t →
    has_serials_below n t ≡ true
below_in n ts a None h l is t e = absurd (mark_is_none t (sym is ∙ e))
  where
    mark_is_none : (t : Term) → a_mark ≡ asserted t → ⊥
    mark_is_none t e = cc
below_in n ts a (Some id) h l is t e =
    ap (has_serials_below n) (same_term t (term_at ts id) (sym e ∙ is)) ∙ table_facts.below_at n ts id h l
  where
    same_term : (t u : Term) → asserted t ≡ asserted u → t ≡ u
    same_term t u e = cc

pub serial_within : (n : ℕ) (ts : List Term) (xs : List code.Assertion) (i : ℕ) (x : code.Assertion)
    (id serial : ℕ) (R : Term) → all_below n ts ≡ true → All (HasNumberBelow (length ts)) xs → i < length xs →
    x ≡ get_or xs i x → x.term ≡ Some id → demanded (term_at ts id) ≡ Some (serial, R) → serial < n
serial_within n ts xs i x id serial R h numbers l is there asks =
    let low : HasNumberBelow (length ts) x = rw is (numbers i x l) in
    let below = below_in n ts (assertion_in ts x) x.term h low refl (term_at ts id) (ap (assertion_of ts) there) in
    let first : nat_lt serial n ≡ true = demanded_below n (term_at ts id) serial R asks below in
    grind (arith, nat_tests)

-- nothing is known yet
pub knows_none : (kept : Decider) (stack : Stacked) → kept.fragment.inside ≡ 0 →
    length kept.members.items ≡ 0 → length kept.roots.items ≡ 0 → length kept.others.items ≡ 0 →
    length kept.constants.items ≡ 0 → length kept.changed.items ≡ 0 →
    length kept.left.items ≡ 0 → kept.spoken.keys ≡ [] → kept.heard ≡ 0 → kept.dead ≡ None →
    IsStoreOf stack.table kept.store → stack.words ≡ [] → Knows kept stack
knows_none kept stack inside members roots others constants changed left spoken heard dead store words =
    let none : kept.constants.items ≡ [] = nil_from_length kept.constants.items constants in
    let nothing : kept.members.items ≡ [] = nil_from_length kept.members.items members in
    record {
      inside = inside_none kept.fragment.inside stack.table stack.assertions inside;
      taken = record {
        store = store;
        members = rw nothing tt;
        rooted = record {
          numbers = rw nothing (All-nil (HasRegexBelow (length kept.store.arena)));
          abreast = omega (arith, members, roots);
          right = λ place m root at is. absurd (omega (
            arith,
            members,
            slice_get_within kept.members.items place (Some m) at,
          ));
        };
        counted = record {
          within = λ i d l. absurd (omega (arith, l, members));
          places = λ n. ap (λ cs. (conjoined_at cs n).places) none ∙ ap (places_in 0 n) (sym nothing);
          apart = nil_from_length kept.others.items others ∙ ap (other_places 0) (sym nothing);
          settled = λ n h j. rw none refl;
          left_listed = λ i d l. absurd (omega (arith, l, left));
          listed = λ i d l. absurd (omega (arith, l, changed));
        };
        dead = rw dead tt;
        heard = heard_none stack.table stack.assertions kept.others.items kept.heard kept.spoken.keys heard spoken;
      };
      words = record {
        characters = rw words refl;
        few = rw words (omega arith);
        least = λ n k h. least_of_none kept.store.arena (ids_in kept.members.items n) k (word_at stack.words n)
            (ap (λ cs. (conjoined_at cs n).known) (sym none) ∙ h) (ap (λ ws. word_at ws n) words);
      };
      declared = omega (arith, constants);
    }

-- another table, and other assertions behind those that were taken in
knows_told : NormalsStay → (kept : Decider) (old new : Stacked) → table.Extends old.table new.table
    → new.words ≡ old.words → length old.scope.sorts ≤ length new.scope.sorts
    → ((p : ℕ) → p < length kept.members.items → slice_get new.assertions p ≡ slice_get old.assertions p)
    → (f : Fragment) → AreInside f.inside new.table new.assertions → Knows kept old
    → Knows (record kept { fragment = f }) new
knows_told stays kept old new e words constants same f inside k =
    let t = k.taken in
    let ms = kept.members.items in record {
      inside = inside;
      taken = record {
        store = more_terms stays old.table new.table kept.store e t.store;
        members = members_told kept.store.arena new.table ms old.assertions new.assertions same
            (members_moved kept.store.arena kept.store.arena old.table new.table ms old.assertions
            (extends_same kept.store.arena) e t.members);
        rooted = t.rooted;
        counted = t.counted;
        dead = t.dead;
        heard = heard_told kept.store.arena old.table new.table ms old.assertions new.assertions kept.others.items
            kept.heard kept.spoken.keys e t.members same (All-same (λ p. p < length ms) kept.others.items
            (other_places 0 ms) t.counted.apart (λ i d l. let one = others_below 0 ms i d l in omega (arith, one)))
            t.heard;
      };
      words = rw words k.words;
      declared = omega (arith, k.declared, constants);
    }

-- the table and the assertions grow
pub knows_stays : NormalsStay → (kept : Decider) (old new : Stacked) → table.Extends old.table new.table
    → IsLonger old.assertions new.assertions → new.words ≡ old.words → length old.scope.sorts ≤ length new.scope.sorts →
    Knows kept old → Knows kept new
knows_stays stays kept old new e longer words constants k =
    let few = members_few kept.store.arena old.table kept.members.items old.assertions k.taken.members in
    knows_told stays kept old new e words constants (λ p l. ap (λ xs. slice_get xs p) longer.1
    ∙ same_left old.assertions longer.0 p (omega (arith, l, few))) kept.fragment
    (inside_stays kept.fragment.inside old.table new.table old.assertions new.assertions longer.0 e longer.1 k.inside) k

-- the table grows, and assertions go that were not taken in
pub knows_left : NormalsStay → (kept : Decider) (f : Fragment) (old new : Stacked) (count : ℕ)
    → table.Extends old.table new.table → IsLonger new.assertions old.assertions → count ≤ length new.assertions
    → length kept.members.items ≤ count → f.inside ≡ min kept.fragment.inside count → new.words ≡ old.words
    → length old.scope.sorts ≤ length new.scope.sorts → Knows kept old → Knows (record kept { fragment = f }) new
knows_left stays kept f old new count e longer there few left words constants k =
    knows_told stays kept old new e words constants (λ p l. sym (ap (λ xs. slice_get xs p) longer.1
    ∙ same_left new.assertions longer.0 p (omega (arith, l, few, there)))) f
    (inside_left kept.fragment.inside f.inside old.table new.table old.assertions new.assertions longer.0 e longer.1
    (omega (arith, left)) (omega (arith, left, there)) k.inside) k

-- a constant is known to have no word
pub knows_dead : (kept : Decider) (serial : Serial) (stack : Stacked)
    → IsEmptyAt kept.store.arena kept.members.items serial.0 → Knows kept stack
    → Knows (record kept { dead = Some serial }) stack
knows_dead kept serial stack empty k =
    let t = k.taken in record {
      inside = k.inside;
      taken = record {
        store = t.store;
        members = t.members;
        rooted = t.rooted;
        counted = t.counted;
        dead = empty;
        heard = t.heard;
      };
      words = k.words;
      declared = k.declared;
    }

-- the places of those that are no memberships are places of assertions
pub others_within : (kept : Decider) (stack : Stacked) → Knows kept stack → (place : ℕ)
    → Contains kept.others.items place → place < length stack.assertions
others_within kept stack k place there =
    let few = members_few kept.store.arena stack.table kept.members.items stack.assertions k.taken.members in
    let below = others_below 0 kept.members.items in
    let these : Contains (other_places 0 kept.members.items) place = rw k.taken.counted.apart at there in
    let low = below these.0 place these.1 in
    let same : get_or (other_places 0 kept.members.items) these.0 place ≡ place = these.2 in
    omega (arith, few, low, same)
