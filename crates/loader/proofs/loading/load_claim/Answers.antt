-- First the cartridge, and then the certificate.
use Rattle.std.proofs.lemmas.Result.{err_from_is_err_and}
use Rattle.loader.proofs.ClaimsLoaded.{claim_loaded, claim_without_cart, claim_without_notes}
use Rattle.loader.proofs.loading.load_claim.Goals as goal

pub returns-in_err-cartridge-clause-works : goal.returns-in_err-cartridge-clause-works
returns-in_err-cartridge-clause-works g c =
    let stopped = err_from_is_err_and c.from_residual.result c.from_residual.ensures.1 in
    rw (stopped.1, stopped.2) (claim_without_cart _ _ c.args.cart.now c.args.cert.now _ c.in_err-cartridge.ensures)

pub returns-in_err-notes-clause-works : goal.returns-in_err-notes-clause-works
returns-in_err-notes-clause-works g c =
    let stopped = err_from_is_err_and c.from_residual-in_err-notes.result c.from_residual-in_err-notes.ensures.1 in
    rw (stopped.1, stopped.2)
    (claim_without_notes _ _ _ c.args.cart.now c.args.cert.now _ _ c.in_ok-cartridge.ensures c.in_err-notes.ensures.works
    c.in_err-notes.ensures.order)

pub returns-clause-works : goal.returns-clause-works
returns-clause-works g c =
    claim_loaded _ _ _ c.args.cart.now c.args.cert.now _ _ c.in_ok-cartridge.ensures c.in_ok-notes.ensures.works
