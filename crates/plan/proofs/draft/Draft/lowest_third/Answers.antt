use Rattle.std.proofs.Common.{◌≡◌, rules, tests, true, false, arith}
use Rattle.std.proofs.lemmas.Iterator.{first_from_Range}
use Rattle.plan.specs.Drafts.{closes}
use Rattle.plan.proofs.Searching.{third_found}
use Rattle.plan.proofs.draft.Draft.lowest_third.Goals as goal

pub returns : goal.returns
returns c =
    let d = c.args.self.now in
    let a = c.args.a in
    let b = c.args.b in
    third_found d a b _ _ (omega arith) (search rules)
    (first_from_Range _ _ _ _ (λ k. closes d a b k ≡ true) (λ k. closes d a b k ≡ false) c.find.ensures.ran
    (λ x q k. search (rules, tests)) (λ x q k. search (rules, tests)))
