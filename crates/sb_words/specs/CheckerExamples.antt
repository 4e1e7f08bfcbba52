-- Rows of words, computed: what each asks, or that it is not taken.
use Rattle.std.specs.Prelude.{◌≡◌, refl, List, [], ◌∷◌, Option, Some, None, codes, if◌then◌else◌}
use Rattle.clap.specs.Words.{Text}
use Rattle.clap.proofs.OnLiterals.{clap_on_literals}
use Rattle.sb_words.specs.CheckerWords.{are_taken, script_of, proof_of}

-- the script and the proof that the words ask for, where they are taken; the program's name comes before them
abbrev asked : List Text → Option (Option Text × Option Text)
asked words =
    let all = codes "strcheck" ∷ words in
    if are_taken all then Some (script_of all, proof_of all) else None

-- the names of a script and of a proof
abbrev s : Text
s = codes "a.smt2"

abbrev p : Text
p = codes "a.proof"

two_names : asked (s ∷ p ∷ []) ≡ Some (Some s, Some p)
unfolding clap_on_literals
two_names = refl

one_name_twice : asked (s ∷ s ∷ []) ≡ Some (Some s, Some s)
unfolding clap_on_literals
one_name_twice = refl

behind_two_dashes : asked (codes "--" ∷ codes "--help" ∷ codes "-p" ∷ [])
    ≡ Some (Some (codes "--help"), Some (codes "-p"))
unfolding clap_on_literals
behind_two_dashes = refl

dashes_between : asked (s ∷ codes "--" ∷ p ∷ []) ≡ Some (Some s, Some p)
unfolding clap_on_literals
dashes_between = refl

no_name : asked [] ≡ None
unfolding clap_on_literals
no_name = refl

no_proof : asked (s ∷ []) ≡ None
unfolding clap_on_literals
no_proof = refl

three_names : asked (s ∷ p ∷ p ∷ []) ≡ None
unfolding clap_on_literals
three_names = refl

an_option : asked (codes "--proof" ∷ p ∷ s ∷ []) ≡ None
unfolding clap_on_literals
an_option = refl

help : asked (codes "--help" ∷ []) ≡ None
unfolding clap_on_literals
help = refl

help_behind_names : asked (s ∷ p ∷ codes "--help" ∷ []) ≡ None
unfolding clap_on_literals
help_behind_names = refl

version : asked (codes "--version" ∷ []) ≡ None
unfolding clap_on_literals
version = refl
