-- The number of each refusal.
use Rattle.std.specs.Prelude.{ℕ, Some, None, Option}
use Rattle.telegram.specs.declared.fault.TelegramFault.{TelegramFault}
use Rattle.telegram.specs.declared.fault.TelegramFault.TheVariants.{Length, Checksum, Command, FormLength, Buffer}
use Rattle.telegram.specs.declared.fault.AnswerFault.{AnswerFault}
use Rattle.telegram.specs.declared.fault.AnswerFault.TheVariants.{Broken, OtherCommand, OtherAddress, OtherSerial, Exception, Content}

abbrev pub telegram_number : TelegramFault → ℕ
telegram_number Length = 1
telegram_number Checksum = 2
telegram_number Command = 3
telegram_number FormLength = 4
telegram_number Buffer = 15

abbrev pub answer_number : AnswerFault → ℕ
answer_number (Broken e) = telegram_number e
answer_number OtherCommand = 5
answer_number OtherAddress = 6
answer_number OtherSerial = 7
answer_number (Exception code) = 8
answer_number Content = 9

-- an exception also tells its code
abbrev pub answer_code : AnswerFault → Option ℕ
answer_code (Broken e) = None
answer_code OtherCommand = None
answer_code OtherAddress = None
answer_code OtherSerial = None
answer_code (Exception code) = Some code
answer_code Content = None
