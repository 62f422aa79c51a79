-- Replies and how they are cut.
use Rattle.std.specs.Prelude.{ℕ, ◌-◌, min, List, [], ◌++◌, length, take, replicate}
use Rattle.features.specs.Configuration.{configuration_bytes}
use Rattle.protocol.specs.Types.{Content, Own, Configuration, Reply}

-- a reply of `whole` bytes, of which at most `allocation` are sent: the one place where replies are cut
abbrev pub cut_reply : Content → ℕ → ℕ → Reply
cut_reply content whole allocation = record { content = content; length = min whole allocation }

-- a report that the reply holds itself, with zeros after it up to 36 bytes
abbrev pub report : List ℕ → ℕ → Reply
report bytes allocation = cut_reply (Own (bytes ++ replicate (36 - length bytes) 0)) (length bytes) allocation

-- what GET CONFIGURATION says, which the reply only names
abbrev pub configuration_reply : ℕ → ℕ → ℕ → Reply
configuration_reply request_type start allocation =
    cut_reply (Configuration request_type start) (length (configuration_bytes request_type start)) allocation

-- a reply of no bytes
abbrev pub no_reply : Reply
no_reply = report [] 0

-- what a reply says, uncut
unfoldable pub said : Content → List ℕ
said (Own bytes) = bytes
said (Configuration request_type start) = configuration_bytes request_type start

-- the bytes that are sent of a reply
unfoldable pub reply_bytes : Reply → List ℕ
reply_bytes r = take r.length (said r.content)
