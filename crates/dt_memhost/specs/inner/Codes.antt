-- The codes by which the states here may stand in a model.
use Rattle.std.specs.Prelude.{ℕ, List, refl}
use Rattle.std.specs.Coded.{Coded, code_by, coded×, coded_ℕ, coded_list}
use Rattle.std.specs.FinMap.{code}
use Rattle.dt_host.specs.inner.Codes.{files_code, forest_code, pipes_code, world_code}
use Rattle.dt_host.specs.Store.{StoreFiles}
use Rattle.dt_host.specs.World.{World, Forest, PipeContents}
use Rattle.rand_chacha.specs.ChaCha.{ChaCha}
use Rattle.dt_memhost.specs.Picks.{Picks}
use Rattle.dt_memhost.specs.Script.{Script}
use Rattle.dt_memhost.specs.Store.{StoreState}
use Rattle.dt_memhost.specs.Order.{Order, Orders}
use Rattle.dt_memhost.specs.inner.Forest.{OrderedForest}
use Rattle.dt_memhost.specs.Host.{HostState}

-- a stream, as its key, its number and its position
abbrev pub stream_code : Coded ChaCha
stream_code =
    code_by (List ℕ × (ℕ × ℕ)) (coded× (coded_list coded_ℕ) (coded× coded_ℕ coded_ℕ)) (λ g. (g.key, (g.stream, g.word_pos))) (λ p. record { key = p.0; stream = p.1.0; word_pos = p.1.1 }) (λ _. refl)

-- words, as those of the list and the stream
abbrev pub picks_code : Coded Picks
picks_code =
    code_by (List ℕ × ChaCha) (coded× (coded_list coded_ℕ) stream_code) (λ p. (p.words, p.stream)) (λ p. record { words = p.0; stream = p.1 }) (λ _. refl)

-- a script, as its four parts
abbrev pub script_code : Coded Script
script_code =
    code_by (Picks × (List ℕ × (ℕ × ℕ))) (coded× picks_code (coded× (coded_list coded_ℕ) (coded× coded_ℕ coded_ℕ))) (λ s. (s.picks, (s.fails, (s.calls, s.faults)))) (λ p. record { picks = p.0; fails = p.1.0; calls = p.1.1.0; faults = p.1.1.1 }) (λ _. refl)

-- a store, as its files and its script
abbrev pub store_code : Coded StoreState
store_code =
    code_by (StoreFiles × Script) (coded× files_code script_code) (λ s. (s.files, s.script)) (λ p. record { files = p.0; script = p.1 }) (λ _. refl)

-- the entries of a directory in the order of their binding
abbrev pub order_code : Coded Order
order_code = coded_list (coded× (coded_list coded_ℕ) coded_ℕ)

-- these by number
abbrev pub orders_code : Coded Orders
orders_code = code coded_ℕ order_code

-- a forest with its orders and the pipes, as the three
abbrev pub ordered_code : Coded OrderedForest
ordered_code =
    code_by (Forest × (Orders × PipeContents)) (coded× forest_code (coded× orders_code pipes_code)) (λ o. (o.forest, (o.orders, o.pipes))) (λ p. record { forest = p.0; orders = p.1.0; pipes = p.1.1 }) (λ _. refl)

-- a host, as what it keeps and its script
abbrev pub host_code : Coded HostState
host_code =
    code_by (World × (Orders × Script)) (coded× world_code (coded× orders_code script_code)) (λ s. (s.view, (s.orders, s.script))) (λ p. record { view = p.0; orders = p.1.0; script = p.1.1 }) (λ _. refl)
