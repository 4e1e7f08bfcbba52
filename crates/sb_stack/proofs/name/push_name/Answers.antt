use Rattle.std.proofs.Common.{Bool, List, ℕ, if◌then◌else◌, ◌∷◌, ◌++◌, [], ap, ◌∙◌}
use Rattle.sb_stack.proofs.Printing.{appended}
use Rattle.sb_stack.proofs.name.push_name.Goals as goal

-- a name, by whether it can be read without bars
abbrev by_bars : List ℕ → Bool → List ℕ
by_bars name bare = if bare then name else 124 ∷ (name ++ 124 ∷ [])

pub returns : goal.returns
returns c =
    let old = c.args.text.now.items in
    let name = c.args.name.now in
    appended old _ _ (124 ∷ []) (name ++ 124 ∷ []) c.in_ok-push.ensures.items
    (appended c.push.new.self.items _ _ name (124 ∷ []) c.in_ok-extend_from_slice.ensures.items
    c.in_ok-push-2.ensures.items)
    ∙ ap (λ b. old ++ by_bars name b) c.if-stands_bare.ensures
