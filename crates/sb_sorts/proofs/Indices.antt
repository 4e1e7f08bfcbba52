-- Symbols by their indices.
use Rattle.std.proofs.Common.{◌≡◌, ℕ, ◌<◌, ◌≤◌, Bool, true, false, ◌&&◌, nat_le, if◌then◌else◌, List, [], ◌∷◌, codes, Option, Some, None, option_map, Result, Ok, Err, refl, sym, ap, ◌∙◌, arith}
use Rattle.std.proofs.lemmas.Bool.Decides.{nat_tests}
use Rattle.std.proofs.lemmas.Option.{same_Some}
use Rattle.sb_reader.specs.Forms.{Form, Forms, Symbol, QuotedSymbol, Keyword, Numeral, OtherNumber, Words, Group, none, more, only_of, pair_of}
use Rattle.sb_meaning.specs.Terms as symbol
use Rattle.sb_script.specs.Names.{Name, is_name}
use Rattle.sb_script.specs.Faults.{Fault, bad_index, numeral_too_large}
use Rattle.sb_script.specs.Texts.{number_of}
use Rattle.sb_script.specs.Heads.{Head, head_symbol, indices_of, if_small_indices, with_indices}
use Rattle.sb_sorts.specs.Indices.{numeral_in, by_power, by_loop}

-- more than one index, or more than two
two_indices : (n m : ℕ) (o : Option (List ℕ))
    → with_indices (codes "re.^") (option_map (λ ns. n ∷ ns) (option_map (λ ns. m ∷ ns) o)) ≡ Err bad_index
two_indices n m None = refl
two_indices n m (Some []) = refl
two_indices n m (Some (k ∷ ks)) = refl

three_indices : (n m k : ℕ) (o : Option (List ℕ))
    → with_indices (codes "re.loop")
    (option_map (λ ns. n ∷ ns) (option_map (λ ns. m ∷ ns) (option_map (λ ns. k ∷ ns) o))) ≡ Err bad_index
three_indices n m k None = refl
three_indices n m k (Some ks) = refl

pub no_power : (fs : Forms) → only_of fs ≡ None → with_indices (codes "re.^") (indices_of fs) ≡ Err bad_index
no_power none e = refl
no_power (more f none) e = absurd (Prim.cc (e))
no_power (more (Symbol name) (more g gs)) e = refl
no_power (more (QuotedSymbol name) (more g gs)) e = refl
no_power (more (Keyword name) (more g gs)) e = refl
no_power (more (OtherNumber bytes) (more g gs)) e = refl
no_power (more (Words bytes) (more g gs)) e = refl
no_power (more (Group list) (more g gs)) e = refl
no_power (more (Numeral ds) (more (Numeral es) gs)) e = two_indices (number_of ds) (number_of es) (indices_of gs)
no_power (more (Numeral ds) (more (Symbol name) gs)) e = refl
no_power (more (Numeral ds) (more (QuotedSymbol name) gs)) e = refl
no_power (more (Numeral ds) (more (Keyword name) gs)) e = refl
no_power (more (Numeral ds) (more (OtherNumber bytes) gs)) e = refl
no_power (more (Numeral ds) (more (Words bytes) gs)) e = refl
no_power (more (Numeral ds) (more (Group list) gs)) e = refl

one_power : (f : Form) → with_indices (codes "re.^") (indices_of (more f none)) ≡ by_power (numeral_in f)
one_power (Symbol name) = refl
one_power (QuotedSymbol name) = refl
one_power (Keyword name) = refl
one_power (Numeral digits) = refl
one_power (OtherNumber bytes) = refl
one_power (Words bytes) = refl
one_power (Group list) = refl

pub a_power : (fs : Forms) (f : Form) → Some f ≡ only_of fs
    → with_indices (codes "re.^") (indices_of fs) ≡ by_power (numeral_in f)
a_power none f e = absurd (Prim.cc (e))
a_power (more g none) f e = let same : g ≡ f = Prim.cc (e) in one_power g ∙ ap (λ f. by_power (numeral_in f)) same
a_power (more g (more h hs)) f e = absurd (Prim.cc (e))

-- two indices
one_loop : (f g : Form)
    → with_indices (codes "re.loop") (indices_of (more f (more g none))) ≡ by_loop (numeral_in f) (numeral_in g)
one_loop (Symbol name) g = refl
one_loop (QuotedSymbol name) g = refl
one_loop (Keyword name) g = refl
one_loop (OtherNumber bytes) g = refl
one_loop (Words bytes) g = refl
one_loop (Group list) g = refl
one_loop (Numeral ds) (Symbol name) = refl
one_loop (Numeral ds) (QuotedSymbol name) = refl
one_loop (Numeral ds) (Keyword name) = refl
one_loop (Numeral ds) (Numeral es) = refl
one_loop (Numeral ds) (OtherNumber bytes) = refl
one_loop (Numeral ds) (Words bytes) = refl
one_loop (Numeral ds) (Group list) = refl

pub a_loop : (fs : Forms) (f g : Form) → Some (f, g) ≡ pair_of fs
    → with_indices (codes "re.loop") (indices_of fs) ≡ by_loop (numeral_in f) (numeral_in g)
a_loop none f g e = absurd (Prim.cc (e))
a_loop (more h none) f g e = absurd (Prim.cc (e))
a_loop (more h (more k none)) f g e =
    let both : (f, g) ≡ (h, k) = same_Some (f, g) (h, k) e in
    one_loop h k ∙ ap (λ p. by_loop (numeral_in p.0) (numeral_in p.1)) (sym both)
a_loop (more h (more k (more l ls))) f g e = absurd (Prim.cc (e))

loop_of_more : (h k l : Form) (ls : Forms)
    → with_indices (codes "re.loop") (indices_of (more h (more k (more l ls)))) ≡ Err bad_index
loop_of_more (Symbol name) k l ls = refl
loop_of_more (QuotedSymbol name) k l ls = refl
loop_of_more (Keyword name) k l ls = refl
loop_of_more (OtherNumber bytes) k l ls = refl
loop_of_more (Words bytes) k l ls = refl
loop_of_more (Group list) k l ls = refl
loop_of_more (Numeral ds) (Symbol name) l ls = refl
loop_of_more (Numeral ds) (QuotedSymbol name) l ls = refl
loop_of_more (Numeral ds) (Keyword name) l ls = refl
loop_of_more (Numeral ds) (OtherNumber bytes) l ls = refl
loop_of_more (Numeral ds) (Words bytes) l ls = refl
loop_of_more (Numeral ds) (Group list) l ls = refl
loop_of_more (Numeral ds) (Numeral es) (Symbol name) ls = refl
loop_of_more (Numeral ds) (Numeral es) (QuotedSymbol name) ls = refl
loop_of_more (Numeral ds) (Numeral es) (Keyword name) ls = refl
loop_of_more (Numeral ds) (Numeral es) (OtherNumber bytes) ls = refl
loop_of_more (Numeral ds) (Numeral es) (Words bytes) ls = refl
loop_of_more (Numeral ds) (Numeral es) (Group list) ls = refl
loop_of_more (Numeral ds) (Numeral es) (Numeral fs) ls =
    three_indices (number_of ds) (number_of es) (number_of fs) (indices_of ls)

loop_of_one : (f : Form) → with_indices (codes "re.loop") (indices_of (more f none)) ≡ Err bad_index
loop_of_one (Symbol name) = refl
loop_of_one (QuotedSymbol name) = refl
loop_of_one (Keyword name) = refl
loop_of_one (Numeral digits) = refl
loop_of_one (OtherNumber bytes) = refl
loop_of_one (Words bytes) = refl
loop_of_one (Group list) = refl

pub no_loop : (fs : Forms) → pair_of fs ≡ None → with_indices (codes "re.loop") (indices_of fs) ≡ Err bad_index
no_loop none e = refl
no_loop (more f none) e = loop_of_one f
no_loop (more f (more g none)) e = absurd (Prim.cc (e))
no_loop (more f (more g (more h hs))) e = loop_of_more f g h hs

-- a name of no symbol that takes indices
unnamed : (b : Bool) (ns : List ℕ) (s : symbol.Symbol) → b ≡ false
    → (elim (if b then Some s else None) as (λ _. Result Head Fault) [
      | Some t ↦ if_small_indices ns t
      | None ↦ Err bad_index
    ]) ≡ Err bad_index
unnamed true ns s h = absurd (Prim.cc (h))
unnamed false ns s h = refl

pub other_name : (name : Name) (o : Option (List ℕ)) → is_name name (codes "re.^") ≡ false
    → is_name name (codes "re.loop") ≡ false → with_indices name o ≡ Err bad_index
other_name name None h k = refl
other_name name (Some []) h k = refl
other_name name (Some (n ∷ [])) h k = unnamed (is_name name (codes "re.^")) (n ∷ []) (symbol.re_power n) h
other_name name (Some (n ∷ m ∷ [])) h k = unnamed (is_name name (codes "re.loop")) (n ∷ m ∷ []) (symbol.re_loop n m) k
other_name name (Some (n ∷ m ∷ l ∷ ns)) h k = refl

-- their sizes
small : (n : ℕ) → n ≤ 65535 → nat_le n 65535 ≡ true
small n h = grind (arith, nat_tests)

large : (n : ℕ) → 65535 < n → nat_le n 65535 ≡ false
large n h = grind (arith, nat_tests)

if_true : (b : Bool) (s : symbol.Symbol) → b ≡ true
    → (if b && true then Ok (head_symbol s) else Err numeral_too_large) ≡ Ok (head_symbol s)
if_true true s h = refl
if_true false s h = absurd (Prim.cc (h))

pub power_small : (ds : List ℕ) (n : ℕ) → number_of ds ≡ n → n ≤ 65535
    → by_power (Some ds) ≡ Ok (head_symbol (symbol.re_power n))
power_small ds n is h = rw (← is) (if_true (nat_le (number_of ds) 65535) _ (small (number_of ds) (omega (arith, is, h))))

if_false : (b c : Bool) (s : symbol.Symbol) → b ≡ false
    → (if b && c then Ok (head_symbol s) else Err numeral_too_large) ≡ Err numeral_too_large
if_false true c s h = absurd (Prim.cc (h))
if_false false c s h = refl

pub power_large : (ds : List ℕ) → 65535 < number_of ds → by_power (Some ds) ≡ Err numeral_too_large
power_large ds h = if_false (nat_le (number_of ds) 65535) true _ (large (number_of ds) h)
