use Rattle.grep_main.proofs.messages.write_help.Goals as goal

pub returns-in-Help : goal.returns-in-Help
returns-in-Help g c = rw c.in-Help.is c.write_texts.ensures

pub returns-in-Version : goal.returns-in-Version
returns-in-Version g c = rw c.in-Version.is c.write_texts-in-Version.ensures
