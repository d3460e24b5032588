use Rattle.std.proofs.Common.{refl, sym, ◌∙◌, inl, inr, true≢false}
use Rattle.answer_text.specs.declared.automaton.ArcLine.{ArcLine}
use Rattle.cert_check.proofs.{LeftSteps.stays_by, NodeSteps.leads_to}
use Rattle.cert_check.proofs.left.push_left.Goals as goal

pub returns-then-not-are_tight : goal.returns-then-not-are_tight
returns-then-not-are_tight c = inl (
  refl,
  λ column h stays.
      let leads = leads_to _ _ _ _ _ _ c.requires.piece c.in-Node.is column h in
      let same = stays_by c.args.subject.now _ _ _ c.requires.ascends c.requires.is column _ _ leads
      (c.requires.piece.costs column h) _ c.are_tight.ensures in
      true≢false (sym (same.1 stays) ∙ c.if-not-are_tight.true),
)

pub returns : goal.returns
returns c =
    let arc : ArcLine = record { target = c.in-Node.target; class = c.args.piece.now.class } in
    inr (
      arc,
      (
        record {
          same_class = refl;
          leads = λ column h. leads_to _ _ _ _ _ _ c.requires.piece c.in-Node.is column h;
          stays = λ column h.
              let leads = leads_to _ _ _ _ _ _ c.requires.piece c.in-Node.is column h in
              (stays_by c.args.subject.now _ _ _ c.requires.ascends c.requires.is column _ _ leads
              (c.requires.piece.costs column h) _ c.are_tight.ensures).0 c.if-not-are_tight.false;
        },
        c.in_ok-push.ensures.items,
      ),
    )
