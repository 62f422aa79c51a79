-- The two theorems about the reader and the drive's replies.
use Rattle.configuration.specs.Theorems.{ReadBack, OnlySent}
use Rattle.configuration.proofs.Laws.Reading.{read_back, only_sent}

pub replies-read_back : ReadBack
replies-read_back = read_back

pub accepted_only_sent : OnlySent
accepted_only_sent = only_sent
