-- What the loop of write_all keeps.
use Rattle.std.proofs.Common.{◌≡◌, ℕ, ◌+◌, ◌-◌, ◌≤◌, List, ◌++◌, length, take, drop, ap, sym, ◌∙◌, arith, length-drop}
use Rattle.std.proofs.Math.Seq.{take-add}
use Rattle.std.proofs.lemmas.List.{drop-drop}
use Rattle.sb_world.specs.declared.OutPort.{OutPort}
use Rattle.sb_world.specs.Outside.{Outside, write_at}
use Rattle.sb_world.specs.Moved.{moved_by, writing}
use Rattle.sb_world.proofs.CallerLemmas.{moved_by-both, write_at-moves, writing-append}

-- one piece after another is both in one
write_at-append : (port : OutPort) (a b : List ℕ) (o : Outside)
    → write_at port b (write_at port a o) ≡ write_at port (a ++ b) o
write_at-append port a b o =
    write_at-moves port b (write_at port a o)
    ∙ (ap (moved_by (writing (port, b))) (write_at-moves port a o)
    ∙ (moved_by-both (writing (port, a)) (writing (port, b)) o
    ∙ (ap (λ m. moved_by m o) (writing-append port a b) ∙ sym (write_at-moves port (a ++ b) o))))

-- rest is the back of the bytes, and what is before it is out
pub record Sofar (port : OutPort) (bytes rest : List ℕ) (start now : Outside) (faults_start faults_now : ℕ) : Type 0
  where
    pub out : ℕ
    pub within : out ≤ length bytes
    pub rest_is : rest ≡ drop out bytes
    pub written : now ≡ write_at port (take out bytes) start
    pub faults_stand : faults_now ≡ faults_start

-- one more piece
pub Sofar-step : (port : OutPort) (bytes rest rest' : List ℕ) (start now now' : Outside) (f f' f'' count : ℕ)
    → Sofar port bytes rest start now f f' → count ≤ length rest → rest' ≡ drop count rest
    → now' ≡ write_at port (take count rest) now → f'' ≡ f' → Sofar port bytes rest' start now' f f''
Sofar-step port bytes rest rest' start now now' f f' f'' count s within split written stands = record {
  out = s.out + count;
  within = (let h : length rest ≡ length bytes - s.out = ap length s.rest_is ∙ length-drop s.out bytes in
      let k : s.out ≤ length bytes = s.within in omega arith);
  rest_is = split ∙ ap (drop count) s.rest_is ∙ drop-drop count s.out bytes;
  written = written ∙ ap (write_at port (take count rest)) s.written
      ∙ write_at-append port (take s.out bytes) (take count rest) start
      ∙ ap (λ (xs : List ℕ). write_at port xs start) (ap (λ (r : List ℕ). take s.out bytes ++ take count r) s.rest_is
      ∙ sym (take-add s.out count bytes));
  faults_stand = stands ∙ s.faults_stand;
}
