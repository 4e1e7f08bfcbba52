-- What a world in memory holds.
use Rattle.std.specs.Prelude.{ℕ, ◌+◌, ◌-◌, ◌^◌, min, List, Option, option_map, Contains, String, Vec, string_bytes}
use Rattle.std.specs.BTreeMap.{BTreeMap, get_by_text}
use Rattle.std.specs.declared.alloc.Global.{Global}
use Rattle.sb_world.specs.Outside.{Opening, NotOpened, Nameless, Named}
use Rattle.sb_world.specs.declared.ports.Opened.{Opened}
use Rattle.sb_world.specs.declared.ports.Opened.TheVariants as opened

abbrev pub opening_of : Opened → Opening
opening_of opened.Not = NotOpened
opening_of opened.Nameless = Nameless
opening_of (opened.Named name) = Named (string_bytes name)

-- an input port: how it was opened, and what is left to be read
pub record Reading : Type 0 where
  pub opening : Opening
  pub left : List ℕ

-- an output port: how it was created, and what was written since
pub record Writing : Type 0 where
  pub opening : Opening
  pub written : List ℕ

-- the calls so far, the numbers of those that fail, and the greatest length of a read
pub record Schedule : Type 0 where
  pub calls : ℕ
  pub failing : List ℕ
  pub longest_read : ℕ

-- a count raised by one, unless it stands at its end
abbrev pub one_more : ℕ → ℕ
one_more n = min (n + 1) (2 ^ 64 - 1)

-- the number of the next call
abbrev pub next_call : Schedule → ℕ
next_call s = one_more s.calls

abbrev pub after_call : Schedule → Schedule
after_call s = record s { calls = next_call s }

abbrev pub NextFails : Schedule → Type 0
NextFails s = Contains s.failing (next_call s)

-- files by name
abbrev pub Files : Type 0
Files = BTreeMap (String Global) (Vec ℕ Global)

abbrev pub held_by : Files → List ℕ → Option (List ℕ)
held_by files name = option_map (λ bytes. bytes.items) (get_by_text files name)
