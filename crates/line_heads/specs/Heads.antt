-- The keys that a line of the job text can begin with, as the format shows them.
--
--   key_bytes k          the bytes of a key
--   NoKey bs             none of the keys stands in front of bs
--   Splits bs k rest     the key k stands in front of bs, and rest follows it
use Rattle.std.specs.Prelude.{◌≡◌, ℕ, List, ◌++◌, codes, ◌≢◌}
use Rattle.line_heads.specs.declared.Key.{Key}
use Rattle.line_heads.specs.declared.Key.TheVariants.{Nodes, Local, Send, Receive, Meet, Close, Op, Order, Ask}

abbrev pub key_bytes : Key → List ℕ
key_bytes Nodes = codes "nodes="
key_bytes Local = codes "local="
key_bytes Send = codes "send="
key_bytes Receive = codes "recv="
key_bytes Meet = codes "meet="
key_bytes Close = codes "close="
key_bytes Op = codes "op="
key_bytes Order = codes "order="
key_bytes Ask = codes "ask="

abbrev pub NoKey : List ℕ → Type 0
NoKey bs = (k : Key) (rest : List ℕ) → bs ≢ key_bytes k ++ rest

abbrev pub Splits : List ℕ → Key → List ℕ → Type 0
Splits bs k rest = bs ≡ key_bytes k ++ rest
