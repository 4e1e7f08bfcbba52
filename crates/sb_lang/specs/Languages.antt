-- Languages as tests on words, and the operations that regular expressions name (SMT-LIB theory of Unicode
-- Strings, regular expressions). A test, so that complement has its excluded middle.
use Rattle.std.specs.Prelude.{ℕ, zero, suc, Bool, true, false, ◌&&◌, ◌||◌, nat_le, List, [], ◌∷◌, length}

abbrev pub Language : Type 0
Language = List ℕ → Bool

-- the empty word alone
abbrev pub empty_word : Language
empty_word [] = true
empty_word (c ∷ w) = false

-- the words of one character that passes the test
abbrev pub one_character : (ℕ → Bool) → Language
one_character test [] = false
one_character test (c ∷ []) = test c
one_character test (c ∷ d ∷ w) = false

-- some cut of the word has its first part in L and its second in M
unfoldable pub cut : Language → Language → Language
cut L M [] = L [] && M []
cut L M (c ∷ w) = (L [] && M (c ∷ w)) || cut (λ u. L (c ∷ u)) M w

-- n words of L, one behind the other
unfoldable pub power : Language → ℕ → Language
power L zero = empty_word
power L (suc n) = cut L (power L n)

-- some number up to n passes the test
unfoldable pub some_up_to : ℕ → (ℕ → Bool) → Bool
some_up_to zero test = test zero
some_up_to (suc n) test = test (suc n) || some_up_to n test

-- some number of words of L, one behind the other: no more than the word is long, since empty ones add nothing
unfoldable pub iterate : Language → Language
iterate L w = some_up_to (length w) (λ n. power L n w)

-- from n to m words of L, one behind the other
unfoldable pub repeat : Language → ℕ → ℕ → Language
repeat L n m w = some_up_to m (λ k. nat_le n k && power L k w)
