-- The file is fetched, and then read.
use Rattle.std.proofs.lemmas.Result.{err_from_is_err_and}
use Rattle.loader.proofs.ScriptsLoaded.{picture_read, picture_stop}
use Rattle.loader.proofs.loading.load_image.Goals as goal

pub returns-in_err-text : goal.returns-in_err-text
returns-in_err-text g c =
    let stopped = err_from_is_err_and c.from_residual.result c.from_residual.ensures.1 in
    rw (stopped.1, stopped.2) (picture_stop _ _ c.args.file.now _ c.in_err-text.ensures.works)

pub returns : goal.returns
returns g c =
    picture_read _ _ c.args.file.now _ c.read_image.result c.in_ok-text.ensures.works
    (rw c.as_slice.ensures.value at c.read_image.ensures.says)
