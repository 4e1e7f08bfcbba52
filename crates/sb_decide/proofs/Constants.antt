-- Constants by their place, with the places of their memberships.
use Rattle.sb_decide.proofs.Words.{All, Bool, Conjoined, IsChangedAt, List, Member, None, Option, RestSettled, Serial, Some, [], and_from, and_parts, ap, append-nil, are_characters, are_words, arith, conjoined_at, eq-eqb, eqb-false, eqb-true, false, false≢true, get_or, get_or_from_slice_get, if◌then◌else◌, is_listed, is_settled, length, length-append, list_any_at, ne_eqb, or_parts, places_in, refl, slice_get, slice_get_within, subst, suc, sym, take, take-append_seam, take_all, take_more, true, with_place, without_last, without_place, word_at, ℕ, ◌++◌, ◌+◌, ◌-◌, ◌<◌, ◌==◌, ◌||◌, ◌∙◌, ◌∷◌, ◌≡◌, ◌≢◌, ◌≤◌}
use Rattle.sb_decide.proofs.MemberFacts.{by_number, default_behind, places_here, places_other}

pub record Growing (old new : List Conjoined) (count : ℕ) : Type 0 where
  pub within : length new ≤ count
  pub same : (n : ℕ) → conjoined_at new n ≡ conjoined_at old n

-- a new word
words_blank : (words : List (List ℕ)) → are_words words ≡ true → are_words (words ++ [] ∷ []) ≡ true
words_blank [] h = refl
words_blank (w ∷ words) h =
    and_from (are_characters w) (are_words (words ++ [] ∷ [])) (and_parts (are_characters w) (are_words words) h).0
    (words_blank words (and_parts (are_characters w) (are_words words) h).1)

pub record Filling (old new : List (List ℕ)) (count : ℕ) : Type 0 where
  pub within : length new ≤ count
  pub same : (n : ℕ) → word_at new n ≡ word_at old n
  pub characters : are_words old ≡ true → are_words new ≡ true

pub filling_more : (old new new' : List (List ℕ)) (count : ℕ) (w : List ℕ) → Filling old new count
    → length new < count → new' ≡ new ++ w ∷ [] → w ≡ [] → Filling old new' count
filling_more old new new' count w g l more is = rw (more, is) (record {
  within = omega (arith, l, length-append new ([] ∷ []));
  same = λ n. default_behind new [] n ∙ g.same n;
  characters = λ h. words_blank new (g.characters h);
})

-- constants in a list, what holds of each of them, and the last one
pub listed_at : (xs : List Serial) (k : ℕ) (d : Serial) → k < length xs → is_listed xs (get_or xs k d).0 ≡ true
listed_at xs k d l = list_any_at (λ (x : Serial). x.0 == (get_or xs k d).0) xs k d l (eq-eqb _ _ refl)

pub listed_all : (P : ℕ → Type 0) (xs : List Serial) (n : ℕ) → All (λ serial. P serial.0) xs → is_listed xs n ≡ true
    → P n
listed_all P [] n all h = absurd (false≢true h)
listed_all P (x ∷ xs) n all h =
    by (x.0 == n) refl h (listed_all P xs n (λ k d l. all (suc k) d (omega (arith, l))))
  where
    by : (b : Bool) → (x.0 == n) ≡ b → (b || is_listed xs n) ≡ true → (is_listed xs n ≡ true → P n) → P n
    by true e k later = subst P (eqb-true x.0 n e) (all 0 x (omega arith))
    by false e k later = later k

pub listed_last : (rest : List Serial) (last : Serial) (n : ℕ) → is_listed rest n ≡ false → n ≢ last.0
    → is_listed (rest ++ last ∷ []) n ≡ false
listed_last [] last n h other = ap (λ b. b || false) (ne_eqb last.0 n (λ e. other (sym e)))
listed_last (s ∷ rest) last n h other =
    let parts = or_parts (s.0 == n) (is_listed rest n) h in
    ap (λ b. b || is_listed (rest ++ last ∷ []) n) parts.0 ∙ listed_last rest last n parts.1 other

with_last : (xs : List Serial) (last : Serial) → slice_get xs (length xs - 1) ≡ Some last
    → xs ≡ take (length xs - 1) xs ++ last ∷ []
with_last xs last there =
    let within : length xs - 1 < length xs = slice_get_within xs (length xs - 1) last there in
    let whole : (length xs - 1) + 1 ≡ length xs = omega (arith, within) in
    sym (take_all (length xs) xs (omega arith))
    ∙ (ap (λ k. take k xs) (sym whole)
    ∙ (take_more xs (length xs - 1) last within
    ∙ ap (λ s. take (length xs - 1) xs ++ s ∷ []) (get_or_from_slice_get xs (length xs - 1) last last there)))

pub unlisted : (cs : List Conjoined) (xs rest : List Serial) (last serial : Serial)
    → slice_get xs (length xs - 1) ≡ Some last → last.0 ≡ serial.0 → rest ≡ take (length xs - 1) xs
    → is_settled (conjoined_at cs serial.0) ≡ true → (left : List Serial) → RestSettled left xs cs
    → RestSettled left rest cs
unlisted cs xs rest last serial there same is has left settled =
    by_number (λ n. is_listed left n ≡ false → is_listed rest n ≡ false → is_settled (conjoined_at cs n) ≡ true)
    serial.0 (λ _ _. has) (λ n other none h.
    settled n none (ap (λ ss. is_listed ss n) (with_last xs last there)
    ∙ listed_last (take (length xs - 1) xs) last n (ap (λ ss. is_listed ss n) (sym is) ∙ h) (λ e. other (e ∙ same))))

-- what a change of one constant leaves as it was
pub changed_by : {A : Type 0} (f : Conjoined → A) (old new : List Conjoined) (serial : ℕ) (c : Conjoined)
    → IsChangedAt old new serial c → f c ≡ f (conjoined_at old serial) → (n : ℕ)
    → f (conjoined_at new n) ≡ f (conjoined_at old n)
changed_by f old new serial c p same =
    by_number (λ n. f (conjoined_at new n) ≡ f (conjoined_at old n)) serial (ap f p.there ∙ same)
    (λ n other. ap f (p.others n other))

-- One more is taken in, at the place.
pub record IsPut (o : Option Member) (place : ℕ) (old new : List Conjoined) : Type 0 where
  pub long : length new ≡ length old
  pub places : (n : ℕ) → (conjoined_at new n).places ≡ (conjoined_at old n).places ++ places_in place n (o ∷ [])
  pub known : (n : ℕ) → (conjoined_at new n).known ≡ (conjoined_at old n).known

pub put_none : (place : ℕ) (cs : List Conjoined) → IsPut None place cs cs
put_none place cs =
    record { long = refl; places = λ n. sym (append-nil (conjoined_at cs n).places); known = λ n. refl }

pub put_some : (m : Member) (place : ℕ) (old new : List Conjoined)
    → IsChangedAt old new m.serial.0 (with_place place (conjoined_at old m.serial.0)) → IsPut (Some m) place old new
put_some m place old new p = record {
  long = p.same_length;
  places = λ n. by_test n (n == m.serial.0) refl;
  known = λ n. changed_by (λ c. c.known) old new m.serial.0 (with_place place (conjoined_at old m.serial.0)) p refl n;
}
  where
    by_test : (n : ℕ) (b : Bool) → (n == m.serial.0) ≡ b
        → (conjoined_at new n).places ≡ (conjoined_at old n).places ++ (if b then place ∷ [] else [])
    by_test n true t =
        ap (λ i. (conjoined_at new i).places) (eqb-true n m.serial.0 t)
        ∙ (ap (λ (c : Conjoined). c.places) p.there
        ∙ ap (λ i. (conjoined_at old i).places ++ place ∷ []) (sym (eqb-true n m.serial.0 t)))
    by_test n false t =
        ap (λ (c : Conjoined). c.places) (p.others n (eqb-false n m.serial.0 t))
        ∙ sym (append-nil (conjoined_at old n).places)

-- the places of a constant's memberships, with one less
pub last_gone : (places : List ℕ) (place : ℕ) → without_last (places ++ place ∷ []) ≡ places
last_gone places place =
    let long : length (places ++ place ∷ []) - 1 ≡ length places = omega (arith, length-append places (place ∷ [])) in
    ap (λ k. take k (places ++ place ∷ [])) long ∙ take-append_seam places (place ∷ [])

pub places_back : (old new : List Conjoined) (ms : List (Option Member)) (m : Member) (n : ℕ)
    → ((k : ℕ) → (conjoined_at old k).places ≡ places_in 0 k (ms ++ Some m ∷ []))
    → IsChangedAt old new m.serial.0 (without_place (conjoined_at old m.serial.0))
    → (conjoined_at new n).places ≡ places_in 0 n ms
places_back old new ms m n places p =
    by_number (λ k. (conjoined_at new k).places ≡ places_in 0 k ms) m.serial.0
    (ap (λ (c : Conjoined). c.places) p.there
    ∙ (ap without_last (places m.serial.0 ∙ places_here m.serial.0 ms m refl)
    ∙ last_gone (places_in 0 m.serial.0 ms) (length ms)))
    (λ k e. ap (λ (c : Conjoined). c.places) (p.others k e) ∙ (places k ∙ places_other k ms m e)) n
