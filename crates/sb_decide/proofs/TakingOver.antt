-- What was found of constants is taken over, and a verdict given.
use Rattle.sb_decide.proofs.Words.{◌≡◌, ◌≢◌, ℕ, ◌+◌, ◌<◌, true, false, List, [], ◌∷◌, ◌++◌, length, get_or, set, map, take, refl, sym, ap, ap₂, ◌∙◌, arith, Option, None, Some, IfSome, is_some, unwrap_or, vec_len, subst, All, All-pop, All-push, AreConjuncts, AreFilled, AreFound, AreKept, AreRooted, AreSpoken, ArenaGrows, Assumption, Conjoined, Decider, Extends, Findings, Fit, Found, FragmentIsOfEach, Global, HasAll, HasRegexBelow, IntersectionIsOfEach, IsChangedAt, IsEmptyAt, IsFoundAt, IsFoundOf, IsGraph, IsLeastOf, IsReady, IsRootOf, IsShortestLeast, IsSofar, IsSpoken, IsTakingOver, IsVerdict, IsWord, KeepsEntries, KeepsMarks, Knows, Member, MkandKeepsLanguage, Names, NormalHasTermsWords, ReadyGrown, Regex, RegexesGrow, RegexesGrowAlone, RestSettled, Searches, Serial, Stacked, Store, Term, Vec, all_known, assertion_in, blank, conjoined_at, eq-eqb, extends_more, false≢true, get_or-set_other, get_or-set_same, get_or_read, ids_in, is_decided, is_listed, is_member, is_plain, is_plain_assertion, is_settled, is_unsat, language, length-set, list_all, live, live_constants, live_laid, live_terms, map-append, map_push, mkand, names_below, nil_from_length, places_in, regex_at, regexes_at, regexes_both, same_Some, speaks_of, state_of, take_all, take_more, with_items, with_items_is, with_place, with_word, without_place, word_at, word_of, words_in, Grows}
use Rattle.sb_term.specs.declared.assertion.Assertion as code
use Rattle.sb_decide.proofs.Conjunctions.{same_least, in_root}
use Rattle.sb_decide.proofs.Constants.{listed_last}
use Rattle.sb_decide.proofs.KeptWords.{all_least, ids_long, length-with_word, settled_least, word_elsewhere, word_there, words_with}
use Rattle.sb_decide.proofs.Knowledge.{kept_grown, knows_grown, knows_known}
use Rattle.sb_decide.proofs.MemberFacts.{by_number, words_grown}
use Rattle.sb_decide.proofs.OneMembership.{members_alone, members_decided, none_other, sofar_of}
use Rattle.sb_decide.proofs.Verdicts.{unsat_given}
use Rattle.sb_decide.proofs.RootFacts.{rooted_grown}
use Rattle.sb_fragment.specs.declared.keeper.Fragment.{Fragment}
use Rattle.sb_fragment.specs.Inside.{AreInside}
use Rattle.sb_store.proofs.CallerLemmas.{explored}

-- what was found, over words that are the same
found_filled : (rs : List Regex) (ms : List (Option Member)) (cs : List Conjoined) (words filled : List (List ℕ))
    (f : Found) → ((n : ℕ) → word_at filled n ≡ word_at words n) → IsFoundOf rs ms cs words f
    → IsFoundOf rs ms cs filled f
found_filled rs ms cs words filled f same h = (
  h.0,
  subst (IsShortestLeast (words_in rs ms f.serial.0)) (ap (unwrap_or f.word) (sym (same f.serial.0))) h.1,
)

-- over words of which one is that of its constant
found_put : (rs : List Regex) (ms : List (Option Member)) (cs : List Conjoined) (words put : List (List ℕ))
    (place : ℕ) (f : Found) → ((n : ℕ) → n ≢ place → word_at put n ≡ word_at words n)
    → IsShortestLeast (words_in rs ms place) (word_at put place) → IsFoundOf rs ms cs words f → IsFoundOf rs ms cs put f
found_put rs ms cs words put place f others least h = (h.0, by_word f.word h.1)
  where
    by_word : (o : Option (List ℕ))
        → IsShortestLeast (words_in rs ms f.serial.0) (unwrap_or o (word_at words f.serial.0))
        → IsShortestLeast (words_in rs ms f.serial.0) (unwrap_or o (word_at put f.serial.0))
    by_word None =
        by_number (λ n. IsShortestLeast (words_in rs ms n) (word_at words n)
        → IsShortestLeast (words_in rs ms n) (word_at put n)) place (λ _. least)
        (λ n e l. subst (IsShortestLeast (words_in rs ms n)) (sym (others n e)) l) f.serial.0
    by_word (Some w) = λ l. l

pub starts : (rs : List Regex) (ms : List (Option Member)) (cs : List Conjoined) (left changed : List Serial)
    (fs : List Found) (words filled : List (List ℕ)) → RestSettled left changed cs
    → ((n : ℕ) → (conjoined_at cs n).places ≡ places_in 0 n ms) → AreKept rs ms cs words →
    AreFilled (length cs) words filled → AreFound rs ms cs words changed fs → IsTakingOver rs ms left cs cs filled fs
starts rs ms cs left changed fs words filled settled places kept more found = record {
  same_length = refl;
  long = more.long;
  each = λ k d l. found_filled rs ms cs words filled (get_or fs k d) more.same (found.each k d l);
  places = places;
  settled = rw found.serials settled;
  kept = record {
    characters = more.characters kept.characters;
    few = omega (arith, more.long);
    least = λ n k h. rw (more.same n) (kept.least n k h);
  };
}

pub goes_on : (rs : List Regex) (ms : List (Option Member)) (left : List Serial) (old new new' : List Conjoined)
    (words words' : List (List ℕ)) (fs rest : List Found) (one : Found) (c : Conjoined)
    → IsTakingOver rs ms left old new words fs → fs ≡ rest ++ one ∷ [] → c ≡ get_or new one.serial.0 c →
    new' ≡ set new one.serial.0 (all_known c) → words' ≡ with_word words one.serial.0 one.word →
    IsTakingOver rs ms left old new' words' rest
goes_on rs ms left old new new' words words' fs rest one c t is there grown given = rw (grown, given) (record {
  same_length = length-set new place (all_known c) ∙ t.same_length;
  long = length-with_word words place one.word ∙ t.long;
  each = λ k d l. found_put rs ms old words (with_word words place one.word) place (get_or rest k d)
      (λ n h. word_elsewhere words place n one.word h) least_here
      ((All-pop (IsFoundOf rs ms old words) fs rest (Some one) is t.each).0 k d l);
  places = by_number (λ n. (conjoined_at (set new place (all_known c)) n).places ≡ places_in 0 n ms) place
      (ap (λ (x : Conjoined). x.places) here ∙ places_here)
      (λ n e. ap (λ (x : Conjoined). x.places) (get_or-set_other new place n (all_known c) blank e) ∙ t.places n);
  settled = by_number (λ n. is_listed left n ≡ false → is_listed (map (λ f. f.serial) rest) n ≡ false
      → is_settled (conjoined_at (set new place (all_known c)) n) ≡ true) place
      (λ _ _. ap is_settled here ∙ eq-eqb (length c.places) (length c.places) refl)
      (λ n e none h. ap is_settled (get_or-set_other new place n (all_known c) blank e)
      ∙ t.settled n none (ap (λ xs. is_listed (map (λ f. f.serial) xs) n) is
      ∙ (ap (λ ss. is_listed ss n) (map_push (λ f. f.serial) rest one)
      ∙ listed_last (map (λ f. f.serial) rest) one.serial n h e)));
  kept = record {
    characters = words_with words place one.word t.kept.characters this.1.word;
    few = omega (arith, t.kept.few, length-set new place (all_known c), length-with_word words place one.word);
    least = by_number (λ n. (k : ℕ) → (conjoined_at (set new place (all_known c)) n).known ≡ Some k
        → IsLeastOf rs (ids_in ms n) k (word_at (with_word words place one.word) n)) place
        (λ k h. all_least rs (ids_in ms place) k (word_at (with_word words place one.word) place)
        (same_Some k (length c.places) (sym h ∙ ap (λ (x : Conjoined). x.known) here)
        ∙ (ap length places_here ∙ ids_long ms place)) least_here)
        (λ n e k h. subst (IsLeastOf rs (ids_in ms n) k) (sym (word_elsewhere words place n one.word e))
        (t.kept.least n k
        (sym (ap (λ (x : Conjoined). x.known) (get_or-set_other new place n (all_known c) blank e)) ∙ h)));
  };
})
  where
    place : ℕ
    place = one.serial.0

    this : IsFoundOf rs ms old words one
    this = (All-pop (IsFoundOf rs ms old words) fs rest (Some one) is t.each).1

    here : conjoined_at (set new place (all_known c)) place ≡ all_known c
    here = get_or-set_same new place (all_known c) blank (omega (arith, this.0, t.same_length))

    least_here : IsShortestLeast (words_in rs ms place) (word_at (with_word words place one.word) place)
    least_here = subst (IsShortestLeast (words_in rs ms place))
        (sym (word_there words place one.word (omega (arith, this.0, t.long)))) this.1

    places_here : c.places ≡ places_in 0 place ms
    places_here =
        ap (λ (x : Conjoined). x.places) (get_or_read new place c (omega (arith, this.0, t.same_length)) there blank)
        ∙ t.places place

-- all is taken over: each constant that is not left has its word
pub least_over : (rs : List Regex) (ms : List (Option Member)) (left : List Serial) (old new : List Conjoined)
    (words : List (List ℕ)) → IsTakingOver rs ms left old new words [] → (n : ℕ) → is_listed left n ≡ false
    → IsShortestLeast (words_in rs ms n) (word_at words n)
least_over rs ms left old new words t n none =
    settled_least rs ms new words n (t.places n) t.kept (t.settled n none refl)

-- all assertions
all_live : (kept : Decider) (stack : Stacked) → HasAll kept stack
    → map (assertion_in stack.table) (take (length kept.members.items) stack.assertions) ≡ live (state_of stack)
all_live kept stack all =
    ap (map (assertion_in stack.table))
    (take_all (length kept.members.items) stack.assertions (omega (arith, all.0))) ∙ sym (live_laid stack)

pub all_sofar : NormalHasTermsWords → (kept : Decider) (stack : Stacked) → Knows kept stack → HasAll kept stack
    → IsSofar kept.store.arena (live (state_of stack)) (ids_in kept.members.items)
all_sofar law kept stack k all =
    subst (λ done. IsSofar kept.store.arena done (ids_in kept.members.items)) (all_live kept stack all)
    (sofar_of law kept.store.arena stack.table kept.members.items stack.assertions k.taken.members)

-- the live assertions are those of the table
pub live_as : (stack : Stacked) (ts : List Term) (xs : List code.Assertion) → ts ≡ stack.table
    → xs ≡ stack.assertions
    → list_all is_decided (live (state_of stack)) ≡ list_all is_decided (map (assertion_in ts) xs)
live_as stack ts xs table assertions =
    ap (list_all is_decided)
    (live_laid stack ∙ ap₂ (λ us ys. map (assertion_in us) ys) (sym table) (sym assertions))

-- where they are looked at more is known to be decided
pub knows_inside : (kept : Decider) (f : Fragment) (store : Store) (stack : Stacked) (ts : List Term)
    (xs : List code.Assertion) → ts ≡ stack.table → xs ≡ stack.assertions → AreInside f.inside ts xs
    → Grows stack.table kept.store store → Knows kept stack
    → Knows (record kept { store = store; fragment = f }) stack
knows_inside kept f store stack ts xs table assertions inside grows k =
    let known = knows_grown kept store stack grows k in
    record {
      inside = rw (table, assertions) at inside;
      taken = record {
        store = known.taken.store;
        members = known.taken.members;
        rooted = known.taken.rooted;
        counted = known.taken.counted;
        dead = known.taken.dead;
        heard = known.taken.heard;
      };
      words = known.words;
      declared = known.declared;
    }

pub decided_live : (kept : Decider) (stack : Stacked) → Knows kept stack → HasAll kept stack
    → list_all is_decided (live (state_of stack)) ≡ true
decided_live kept stack k all =
    ap (list_all is_decided) (sym (all_live kept stack all))
    ∙ members_decided kept.store.arena stack.table kept.members.items stack.assertions k.taken.members

pub members_live : (kept : Decider) (stack : Stacked) → Knows kept stack → HasAll kept stack → kept.others.items ≡ []
    → list_all is_member (live (state_of stack)) ≡ true
members_live kept stack k all alone =
    ap (list_all is_member) (sym (all_live kept stack all))
    ∙ members_alone kept.store.arena stack.table 0 kept.members.items stack.assertions k.taken.members
    (sym k.taken.counted.apart ∙ alone)

-- of a plain script there are no others
pub plain_alone : (kept : Decider) (stack : Stacked) → Knows kept stack → is_plain (state_of stack) ≡ true
    → kept.others.items ≡ []
plain_alone kept stack k plain =
    k.taken.counted.apart
    ∙ none_other kept.store.arena stack.table 0 kept.members.items stack.assertions k.taken.members
    (ap (list_all is_plain_assertion) (sym (live_laid stack)) ∙ plain)

-- so no constant occurs in one
pub plain_silent : (kept : Decider) (stack : Stacked) (n : ℕ) → Knows kept stack → is_plain (state_of stack) ≡ true
    → IsSpoken kept.others.items stack n → ⊥
plain_silent kept stack n k plain spoken = omega (arith, spoken.other.1, ap length (plain_alone kept stack k plain))

-- the live terms speak of live constants alone
abbrev pub Named : Stacked → Type 0
Named stack = list_all (speaks_of (live_constants stack)) (live_terms (state_of stack)) ≡ true

pub dead_given : FragmentIsOfEach → NormalHasTermsWords → (kept : Decider) (stack : Stacked) → Knows kept stack
    → HasAll kept stack → is_some kept.dead ≡ true → Named stack → Fit stack → (given : List Assumption)
    → IsVerdict (state_of stack) given (is_unsat [])
dead_given law words kept stack k all dead named fit given = by_cases kept.dead dead k.taken.dead
  where
    by_cases : (found : Option Serial) → is_some found ≡ true
        → IfSome found (λ serial. IsEmptyAt kept.store.arena kept.members.items serial.0)
        → IsVerdict (state_of stack) given (is_unsat [])
    by_cases None some h = absurd (false≢true some)
    by_cases (Some serial) some h =
        unsat_given law kept.store.arena (state_of stack) (live_constants stack) (ids_in kept.members.items) serial.0
        (all_sofar words kept stack k all) (decided_live kept stack k all) named (fit [] [] refl) h given

-- what is known of regexes grows, and the words of the constants that changed are found
pub knows_searched : RegexesGrowAlone → (kept : Decider) (store : Store) (roots : Vec (Option ℕ) Global)
    (fs : Vec Found Global) (stack : Stacked) → Knows kept stack →
    Searches kept.members.items kept.store store roots.items →
    Knows (record kept { store = store; roots = roots; found = fs }) stack
knows_searched alone kept store roots fs stack k s =
    knows_known kept store roots fs stack (alone stack.table kept.store store s.store) s.rooted k

pub ready_searched : RegexesGrowAlone → (kept : Decider) (store : Store) (roots : Vec (Option ℕ) Global)
    (fs : Vec Found Global) (stack : Stacked) → Knows kept stack → HasAll kept stack → Named stack →
    Searches kept.members.items kept.store store roots.items → AreSpoken kept.others.items stack kept.spoken.keys →
    All (λ serial. IsSpoken kept.others.items stack serial.0) kept.left.items →
    AreFound store.arena kept.members.items kept.constants.items stack.words kept.changed.items fs.items →
    IsReady (record kept { store = store; roots = roots; found = fs }) stack
ready_searched alone kept store roots fs stack k all named s spoken left found = record {
  decided = decided_live kept stack k all;
  named = named;
  all = all;
  knows = knows_searched alone kept store roots fs stack k s;
  found = found;
  spoken = spoken;
  left = left;
}

-- what was found, in an arena that grows
pub found_grown : (rs new : List Regex) (ms : List (Option Member)) (cs : List Conjoined) (words : List (List ℕ))
    (f : Found) → Extends rs new → All (HasRegexBelow (length rs)) ms → IsFoundOf rs ms cs words f
    → IsFoundOf new ms cs words f
found_grown rs new ms cs words f e known h = (
  h.0,
  same_least (words_in rs ms f.serial.0) (words_in new ms f.serial.0) (word_of words f)
      (λ w _. words_grown rs new ms f.serial.0 w e known) h.1,
)

-- what was found of the next of these constants
pub found_next : (rs new : List Regex) (ms : List (Option Member)) (cs : List Conjoined) (words : List (List ℕ))
    (changed : List Serial) (i : ℕ) (d : Serial) (fs fs' : List Found) (one : Found)
    → AreFound rs ms cs words (take i changed) fs → Extends rs new → All (HasRegexBelow (length rs)) ms →
    i < length changed → All (λ serial. serial.0 < length cs) changed →
    IsFoundAt new ms words (get_or changed i d) one → fs' ≡ fs ++ one ∷ [] →
    AreFound new ms cs words (take (i + 1) changed) fs'
found_next rs new ms cs words changed i d fs fs' one a e known l listed found more = rw more (record {
  each = All-push (IsFoundOf new ms cs words) fs one
      (λ k b m. found_grown rs new ms cs words (get_or fs k b) e known (a.each k b m))
      (rw found.0 (listed i d l), found.1);
  serials = map-append (λ f. f.serial) fs (one ∷ [])
      ∙ (ap (λ xs. xs ++ one.serial ∷ []) a.serials
      ∙ (ap (λ s. take i changed ++ s ∷ []) found.0 ∙ sym (take_more changed i d l)));
})

-- the places of one of these constants, and what is known of its word
pub places_listed : (ms : List (Option Member)) (cs : List Conjoined) (changed : List Serial) (i : ℕ) (d : Serial)
    (c : Conjoined) → ((n : ℕ) → (conjoined_at cs n).places ≡ places_in 0 n ms)
    → All (λ serial. serial.0 < length cs) changed → i < length changed → c ≡ get_or cs (get_or changed i d).0 c
    → c.places ≡ places_in 0 (get_or changed i d).0 ms
places_listed ms cs changed i d c places listed l there =
    ap (λ (x : Conjoined). x.places) (get_or_read cs (get_or changed i d).0 c (listed i d l) there blank)
    ∙ places (get_or changed i d).0

pub kept_listed : (rs new : List Regex) (ms : List (Option Member)) (cs : List Conjoined) (words : List (List ℕ))
    (changed : List Serial) (i : ℕ) (d : Serial) (c : Conjoined) → Extends rs new → All (HasRegexBelow (length rs)) ms
    → AreKept rs ms cs words → All (λ serial. serial.0 < length cs) changed → i < length changed
    → c ≡ get_or cs (get_or changed i d).0 c → (k : ℕ) → c.known ≡ Some k
    → IsLeastOf new (ids_in ms (get_or changed i d).0) k (word_at words (get_or changed i d).0)
kept_listed rs new ms cs words changed i d c e known kept listed l there k h =
    (kept_grown rs new ms cs words e known kept).least (get_or changed i d).0 k
    (ap (λ (x : Conjoined). x.known) (sym (get_or_read cs (get_or changed i d).0 c (listed i d l) there blank)) ∙ h)

-- the intersection of the regexes that stand for a constant's memberships, as a check makes it
pub root_made : MkandKeepsLanguage → IntersectionIsOfEach → (old mid : List Regex) (ms : List (Option Member)) (n : ℕ)
    (ids used : List ℕ) (root : ℕ) → used ≡ ids → AreConjuncts old ms n ids → Extends old mid →
    All (HasRegexBelow (length old)) ms → Names mid root (mkand (regexes_at old used)) → IsRootOf mid ms n root
root_made keeps each old mid ms n ids used root same conjuncts e known named =
    let here = rw same at named in record {
      known = names_below mid root (mkand (regexes_at old ids)) here;
      same = λ w. words_grown old mid ms n w e known
          ∙ (sym (conjuncts.same w) ∙ in_root keeps each old mid ids root here w);
    }

-- its words are those of the memberships, also in an arena that grew
pub root_words : (mid new : List Regex) (ms : List (Option Member)) (n root : ℕ) → IsRootOf mid ms n root
    → Extends mid new → All (HasRegexBelow (length mid)) ms → (w : List ℕ) → IsWord w
    → words_in new ms n w ≡ language (regex_at mid root) w
root_words mid new ms n root is e known w c = words_grown mid new ms n w e known ∙ is.same w

-- What is found on the way.

pub searches_grown : {ms : List (Option Member)} {x y : Store} {roots : List (Option ℕ)} → RegexesGrow x y
    → AreRooted x.arena ms roots → Searches ms x y roots
searches_grown {ms} {x} {y} {roots} grows rooted =
    record { store = grows; rooted = rooted_grown x.arena y.arena ms roots grows.more.extends rooted }

pub searches_behind : {ms : List (Option Member)} {x y z : Store} {roots : List (Option ℕ)} → RegexesGrow x y
    → Searches ms y z roots → Searches ms x z roots
searches_behind {ms} {x} {y} {z} grows s = record { store = regexes_both x y z grows s.store; rooted = s.rooted }

pub searches_asked : {ms : List (Option Member)} {mid new : List Regex} {g : Findings} {roots : List (Option ℕ)}
    → ArenaGrows → (x : Store) → Extends x.arena mid → AreRooted mid ms roots → Extends mid new → IsGraph new g
    → KeepsEntries x.graph.memo g.memo → KeepsMarks x.graph.dead g.dead
    → Searches ms x (record x { arena = new; graph = g }) roots
searches_asked {ms} {mid} {new} {g} {roots} law x e rooted more graph entries marks = record {
  store = explored law x new g (extends_more x.arena mid new e more) graph entries marks;
  rooted = rooted_grown mid new ms roots more rooted;
}

-- a vector without elements
pub no_items : {X : Type 0} (v : Vec X Global) → vec_len v ≡ 0 → length v.items ≡ 0
no_items v h = omega (arith, v.ok.0, h)

pub over_all : (rs : List Regex) (ms : List (Option Member)) (left : List Serial) (old new : List Conjoined)
    (words : List (List ℕ)) (fs : List Found) → length fs ≡ 0 → IsTakingOver rs ms left old new words fs
    → IsTakingOver rs ms left old new words []
over_all rs ms left old new words fs none t = rw (nil_from_length fs none) at t

-- a vector whose elements were written over
put_through : (v : Vec Conjoined Global) (now new : List Conjoined) (serial : ℕ) (c : Conjoined) → now ≡ v.items
    → IsChangedAt now new serial c → IsChangedAt v.items (with_items v new).items serial c
put_through v now new serial c value p =
    let q : IsChangedAt v.items new serial c = rw value at p in
    subst (λ cs. IsChangedAt v.items cs serial c)
    (sym (with_items_is v new (omega (arith, q.same_length, v.ok.0)))) q

pub put_here : (v : Vec Conjoined Global) (now new : List Conjoined) (serial i k : ℕ) → now ≡ v.items → i ≡ k
    → IsChangedAt now new serial (with_place i (conjoined_at now serial))
    → IsChangedAt v.items (with_items v new).items serial (with_place k (conjoined_at v.items serial))
put_here v now new serial i k value same p =
    subst (IsChangedAt v.items (with_items v new).items serial)
    (ap₂ (λ cs j. with_place j (conjoined_at cs serial)) value same) (put_through v now new serial _ value p)

pub back_here : (v : Vec Conjoined Global) (now new : List Conjoined) (serial : ℕ) → now ≡ v.items
    → IsChangedAt now new serial (without_place (conjoined_at now serial))
    → IsChangedAt v.items (with_items v new).items serial (without_place (conjoined_at v.items serial))
back_here v now new serial value p =
    subst (IsChangedAt v.items (with_items v new).items serial)
    (ap (λ cs. without_place (conjoined_at cs serial)) value) (put_through v now new serial _ value p)

pub settled_through : (v : Vec Conjoined Global) (now new : List Conjoined) (serial : ℕ) (c : Conjoined)
    (left changed : List Serial) → now ≡ v.items → IsChangedAt now new serial c → RestSettled left changed new →
    RestSettled left changed (with_items v new).items
settled_through v now new serial c left changed value p settled =
    let q : IsChangedAt v.items new serial c = rw value at p in
    subst (RestSettled left changed) (sym (with_items_is v new (omega (arith, q.same_length, v.ok.0)))) settled

-- what a model makes of what is known
pub over_of : (kept : Decider) (stack : Stacked) (fs : List Found) (count : ℕ) (given filled : List (List ℕ))
    (cs new : List Conjoined) (before after : List (List ℕ)) → IsReady kept stack → fs ≡ kept.found.items →
    given ≡ stack.words → count ≡ length stack.scope.sorts → AreFilled count given filled → cs ≡ kept.constants.items →
    before ≡ filled →
    ((ts : List Regex) (ms : List (Option Member)) (left : List Serial) → IsTakingOver ts ms left cs cs before fs
    → IsTakingOver ts ms left cs new after []) →
    IsTakingOver kept.store.arena kept.members.items kept.left.items kept.constants.items new after []
over_of kept stack fs count given filled cs new before after r same_found same_words same_count more same_cs
    same_before over =
    let k = r.knows in
    let long : count ≡ length kept.constants.items = same_count ∙ sym r.all.1 in
    let begun : IsTakingOver kept.store.arena kept.members.items kept.left.items kept.constants.items
    kept.constants.items filled kept.found.items =
    starts kept.store.arena kept.members.items kept.constants.items kept.left.items kept.changed.items kept.found.items
    stack.words filled k.taken.counted.settled k.taken.counted.places k.words (rw (same_words, long) at more) r.found in
    let there = over kept.store.arena kept.members.items kept.left.items in
    (rw (same_cs, same_before, same_found) at there) begun

-- what was found is of constants that there are
pub found_within : (kept : Decider) (stack : Stacked) (fs : List Found) → IsReady kept stack → fs ≡ kept.found.items
    → All (λ one. one.serial.0 < length kept.constants.items) fs
found_within kept stack fs r is = rw is (λ k d l. (r.found.each k d l).0)

-- a constant whose word is found
pub settles : (there c new : Conjoined) → new ≡ all_known there → c ≡ there → new ≡ all_known c
settles there c new is same = rw same is

-- a check that is ready, as all of it grows
pub ready_grown : ReadyGrown
ready_grown kept store stack grows r = record {
  decided = r.decided;
  named = r.named;
  all = r.all;
  knows = knows_grown kept store stack grows r.knows;
  found = record {
    each = λ k d l. found_grown kept.store.arena store.arena kept.members.items kept.constants.items stack.words
        (get_or kept.found.items k d) grows.more.extends r.knows.taken.rooted.numbers (r.found.each k d l);
    serials = r.found.serials;
  };
  spoken = r.spoken;
  left = r.left;
}
