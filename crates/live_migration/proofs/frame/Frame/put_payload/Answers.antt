use Rattle.live_migration.proofs.frame.Frame.put_payload.Goals as goal

pub returns-in-Pages-clause-ok : goal.returns-in-Pages-clause-ok
returns-in-Pages-clause-ok c = rw c.in-Pages.is (rw c.page_bytes.ensures at c.put_two.ensures.ok)

pub returns-in-ZeroPage-clause-ok : goal.returns-in-ZeroPage-clause-ok
returns-in-ZeroPage-clause-ok c =
    rw c.in-ZeroPage.is (rw c.page_bytes-in-ZeroPage.ensures at c.put_two-in-ZeroPage.ensures.ok)
