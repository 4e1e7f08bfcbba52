-- Rows of words, computed: what each asks, or that it is not taken.
use Rattle.std.specs.Prelude.{◌≡◌, refl, List, [], ◌∷◌, Option, Some, None, codes, if◌then◌else◌}
use Rattle.clap.specs.Words.{Text}
use Rattle.clap.proofs.OnLiterals.{clap_on_literals}
use Rattle.sb_words.specs.SolverWords.{are_taken, script_of, proof_of}

-- the script and the proof that the words ask for, where they are taken; the program's name comes before them
abbrev asked : List Text → Option (Option Text × Option Text)
asked words =
    let all = codes "strsolve" ∷ words in
    if are_taken all then Some (script_of all, proof_of all) else None

-- the names of a script and of a proof
abbrev s : Text
s = codes "a.smt2"

abbrev p : Text
p = codes "a.proof"

abbrev flag : Text
flag = codes "--proof"

nothing_more : asked [] ≡ Some (None, None)
unfolding clap_on_literals
nothing_more = refl

a_script : asked (s ∷ []) ≡ Some (Some s, None)
unfolding clap_on_literals
a_script = refl

a_proof : asked (flag ∷ p ∷ []) ≡ Some (None, Some p)
unfolding clap_on_literals
a_proof = refl

both : asked (flag ∷ p ∷ s ∷ []) ≡ Some (Some s, Some p)
unfolding clap_on_literals
both = refl

either_order : asked (s ∷ codes "--proof=a.proof" ∷ []) ≡ Some (Some s, Some p)
unfolding clap_on_literals
either_order = refl

behind_two_dashes : asked (codes "--" ∷ codes "--help" ∷ []) ≡ Some (Some (codes "--help"), None)
unfolding clap_on_literals
behind_two_dashes = refl

no_file : asked (flag ∷ []) ≡ None
unfolding clap_on_literals
no_file = refl

two_scripts : asked (s ∷ s ∷ []) ≡ None
unfolding clap_on_literals
two_scripts = refl

two_proofs : asked (flag ∷ p ∷ flag ∷ p ∷ []) ≡ None
unfolding clap_on_literals
two_proofs = refl

unknown : asked (codes "--fast" ∷ s ∷ []) ≡ None
unfolding clap_on_literals
unknown = refl

help : asked (codes "--help" ∷ []) ≡ None
unfolding clap_on_literals
help = refl

version : asked (codes "--version" ∷ []) ≡ None
unfolding clap_on_literals
version = refl
