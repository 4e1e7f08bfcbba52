-- What is read of a line, and why none is, as the rules of proofs have them.
use Rattle.std.specs.Prelude.{Result, Ok, Err}
use Rattle.sb_rulebook.specs.Refusals.{Refusal, bad_word, bad_number, unended}
use Rattle.sb_proof.specs.declared.read.LineFault.{LineFault}
use Rattle.sb_proof.specs.declared.read.LineFault.TheVariants as fault

abbrev pub refusal_of : LineFault → Refusal
refusal_of fault.BadWord = bad_word
refusal_of fault.BadNumber = bad_number
refusal_of fault.Unended = unended

-- what an answer says, where a view says it of what is read
abbrev pub answered : {A B : Type 0} → (A → B) → Result A LineFault → Result B Refusal
answered view (Ok x) = Ok (view x)
answered view (Err f) = Err (refusal_of f)
