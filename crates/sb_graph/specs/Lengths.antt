-- Private: what a search for words of one length says of a language.
use Rattle.std.specs.Prelude.{◌≡◌, ◌≢◌, ℕ, zero, suc, ◌<◌, ◌+◌, true, false, List, [], ◌∷◌, ◌++◌, length, get_or, Some, All}
use Rattle.std.specs.Ordering.{nat_cmp}
use Rattle.std.specs.Cmp.Lexicographic.{slice_cmp}
use Rattle.std.specs.declared.cmp.Ordering.TheVariants.{Less}
use Rattle.sb_word.specs.Words.{is_character, IsWord}
use Rattle.sb_lang.specs.Regex.{Regex}
use Rattle.sb_lang.specs.Language.{language}
use Rattle.sb_lang.specs.Languages.{Language}
use Rattle.sb_regex.specs.Numbered.{regex_at, Extends}
use Rattle.sb_deriv.specs.Faithful.{Memo, entry_of, IsFaithful, KeepsEntries}
use Rattle.sb_graph.specs.declared.depth.Tried.{Tried}
use Rattle.sb_graph.specs.declared.depth.Tried.TheVariants as tried
use Rattle.sb_graph.specs.declared.depth.Known.{Known}
use Rattle.sb_graph.specs.declared.depth.Known.TheVariants as known

-- the word is in the language, and none of this length is less by code points
pub record IsLeastOfLength (L : Language) (n : ℕ) (w : List ℕ) : Type 0 where
  pub word : IsWord w
  pub member : L w ≡ true
  pub long : length w ≡ n
  pub least : (v : List ℕ) → IsWord v → L v ≡ true → length v ≡ n → slice_cmp nat_cmp v w ≢ Less

abbrev pub HasNoneOfLength : Language → ℕ → Type 0
HasNoneOfLength L n = (w : List ℕ) → IsWord w → length w ≡ n → L w ≡ false

abbrev pub HasEachOfLength : Language → ℕ → Type 0
HasEachOfLength L n = (w : List ℕ) → IsWord w → length w ≡ n → L w ≡ true

-- the new list has the least word of the length behind the old one
pub record HasLeast (L : Language) (n : ℕ) (old new : List ℕ) : Type 0 where
  pub least : List ℕ
  pub is : new ≡ old ++ least
  pub right : IsLeastOfLength L n least

abbrev pub IsTried : Language → ℕ → List ℕ → List ℕ → Tried → Type 0
IsTried L n old new tried.Found = HasLeast L n old new
IsTried L n old new tried.Nothing = HasNoneOfLength L n × (new ≡ old)
IsTried L n old new tried.Stopped = Unit {0}

abbrev pub IsKnown : Language → ℕ → Known → Type 0
IsKnown L n known.Every = HasEachOfLength L n
IsKnown L n known.Nothing = HasNoneOfLength L n
IsKnown L n known.Open = 0 < n

-- no state has a word of the length beside it
abbrev pub AreFailed : List Regex → List (ℕ × ℕ) → Type 0
AreFailed rs pairs = All (λ p. (p.0 < length rs) × HasNoneOfLength (language (regex_at rs p.0)) p.1) pairs

unfoldable pub zeros : ℕ → List ℕ
zeros zero = []
zeros (suc n) = 0 ∷ zeros n

abbrev pub AreZeros : ℕ → List ℕ → List ℕ → Type 0
AreZeros n old new = new ≡ old ++ zeros n

-- where the piece at the place begins, or the end of the characters
abbrev pub begins : List (ℕ × ℕ) → ℕ → ℕ
begins pieces place = (get_or pieces place (0x30000, 0)).0

-- no word of the length begins with a character of the pieces in front of the place
abbrev pub HasNoneBelow : Language → ℕ → List (ℕ × ℕ) → ℕ → Type 0
HasNoneBelow L n pieces place =
    (c : ℕ) (u : List ℕ) → is_character c ≡ true → c < begins pieces place → IsWord u → length u + 1 ≡ n
    → L (c ∷ u) ≡ false

-- the derivative of the state is known, and its pieces in front of the place have been tried
pub record ArePassed (L : Language) (n : ℕ) (memo : Memo) (state count place : ℕ) : Type 0 where
  pub pieces : List (ℕ × ℕ)
  pub known : entry_of memo state ≡ Some pieces
  pub long : count ≡ length pieces
  pub none : HasNoneBelow L n pieces place

-- how far the pieces of a state have been tried
pub record IsExpanding (first now : List Regex) (begun memo : Memo) (pairs : List (ℕ × ℕ)) (state n count place : ℕ)
    (old codes : List ℕ) : Type 0 where
  pub extends : Extends first now
  pub faithful : IsFaithful now memo
  pub kept : KeepsEntries begun memo
  pub failed : AreFailed now pairs
  pub passed : ArePassed (language (regex_at first state)) n memo state count place
  pub same : codes ≡ old

-- the root has no word of a lesser length
pub record IsSearching (first now : List Regex) (begun memo : Memo) (pairs : List (ℕ × ℕ)) (root n : ℕ)
    (codes : List ℕ) : Type 0 where
  pub extends : Extends first now
  pub faithful : IsFaithful now memo
  pub kept : KeepsEntries begun memo
  pub failed : AreFailed now pairs
  pub none : (m : ℕ) → m < n → HasNoneOfLength (language (regex_at first root)) m
  pub empty : codes ≡ []
