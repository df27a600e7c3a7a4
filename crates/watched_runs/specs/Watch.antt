-- What a watcher stands beside.
use Rattle.delegate_parts.specs.declared.builder.Builder.{Builder}
use Rattle.watched_runs.specs.declared.watch.Watcher.{Watcher}

-- the builder that counts frames
abbrev pub inner_of : {I P : Type 0} → Watcher I P → Builder
inner_of watcher = watcher.inner
