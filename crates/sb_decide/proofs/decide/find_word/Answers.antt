use Rattle.sb_decide.proofs.Words.{refl, ◌∙◌, IfOk-from_err}
use Rattle.sb_decide.proofs.RootFacts.{rooted_grown}
use Rattle.sb_decide.proofs.TakingOver.{searches_behind, searches_grown}
use Rattle.sb_decide.proofs.decide.find_word.Goals as goal

pub stands-requires : goal.stands-requires
stands-requires c = record {
  numbers = c.requires.rooted.numbers;
  places = c.requires.places;
  kept = c.requires.kept;
  store = c.requires.store;
}

pub returns-in_err-stays : goal.returns-in_err-stays
returns-in_err-stays c =
    let x = c.from_residual in
    record {
      found = IfOk-from_err x.result _ x.ensures.0;
      searches = searches_grown c.stands.ensures.store c.requires.rooted;
    }

pub returns-then-stays : goal.returns-then-stays
returns-then-stays c =
    let e = c.in_ok-stays.ensures in
    record { found = (refl, e.least c.if-stays.true); searches = searches_grown e.store c.requires.rooted }

pub least_word-requires : goal.least_word-requires
least_word-requires c =
    let e = c.in_ok-stays.ensures in
    record {
      rooted = rooted_grown _ _ _ _ e.store.more.extends c.requires.rooted;
      places = c.places-places.ensures ∙ c.requires.places;
      store = e.store.right c.requires.store;
    }

pub returns-in_err-word : goal.returns-in_err-word
returns-in_err-word c =
    let x = c.from_residual-in_err-word in
    record {
      found = IfOk-from_err x.result _ x.ensures.0;
      searches = searches_behind c.in_ok-stays.ensures.store c.least_word.ensures.searches;
    }

pub returns-in_default : goal.returns-in_default
returns-in_default c =
    let e = c.in_ok-word.ensures in
    record {
      found = rw c.in_default.is at e.found;
      searches = searches_behind c.in_ok-stays.ensures.store e.searches;
    }

pub returns : goal.returns
returns c =
    let e = c.in_ok-word.ensures in
    record {
      found = (refl, rw c.in-Some.is at e.found);
      searches = searches_behind c.in_ok-stays.ensures.store e.searches;
    }
