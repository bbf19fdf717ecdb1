-- The bytes of client/changes.js. tools/client --write wrote this.
use Rattle.std.specs.Prelude.{ℕ, List, codes}

-- the file `changes.js`
unfoldable pub changes_js : List ℕ
changes_js = codes "// How an article changed, and how one of its sentences is changed without overwriting what somebody else did.\nimport { ask } from './api.js';\nimport { complain, isDone, make } from './page.js';\n\nexport const sameSentence = (one, other) => one !== undefined && other !== undefined && one.text === other.text && one.status === other.status;\nexport const sameSentences = (one, other) => one.length === other.length && one.every((sentence, at) => sameSentence(sentence, other[at]));\n\n// For each sentence of `after` its place in `before`, in the same order, or -1 where it is new.\nexport function matches(before, after) {\n    const last = [before.length - 1, after.length - 1];\n    let same = 0;\n    while (same < Math.min(before.length, after.length) && sameSentence(before[last[0] - same], after[last[1] - same])) { same += 1; }\n    let next = 0;\n    return after.map((sentence, place) => {\n        const isOfEnd = place > last[1] - same && last[0] - last[1] + place >= next;\n        const at = isOfEnd ? last[0] - last[1] + place : before.findIndex((it, old) => old >= next && sameSentence(it, sentence));\n        if (at >= 0) { next = at + 1; }\n        return at;\n    });\n}\n\n// What changed between two readings of an article, as a list.\nexport function whatChanged(before, after) {\n    const found = matches(before.sentences, after.sentences);\n    const item = (how, it) => make('li', {}, make('strong', {}, how), ': ', make('bdi', {}, it.text), ` (${it.status})`);\n    return make('ul', { class: 'changed' },\n        before.sentences.filter((it, at) => !found.includes(at)).map((it) => item('gone', it)),\n        after.sentences.filter((it, at) => found[at] === -1).map((it) => item('new', it)));\n}\n\nexport const isSameAt = (shown, now, at) => at === shown.sentences.length ? now.sentences.length === at : sameSentence(shown.sentences[at], now.sentences[at]);\n\n// Sends a change of the sentence at this place where it is still the one that was shown, and reads what came of it.\nexport async function change(article, shown, at, name, members) {\n    const before = await ask('read', { article });\n    if (!isSameAt(shown, before, at)) {\n        complain('Nothing was sent, since somebody else changed this place of the article. Look at it, and try again.', whatChanged(shown, before));\n        return { now: before, done: false };\n    }\n    const done = await isDone(ask(name, { article, at, ...members }));\n    const now = await ask('read', { article });\n    compare(before, now, done);\n    return { now, done };\n}\n\n// Tells what happened, where that isn't just the one change that was asked for.\nexport function compare(before, now, done) {\n    if (!done && now.revision === before.revision && sameSentences(before.sentences, now.sentences)) {\n        complain('The article is as it was before, so the change was not done. Try again.');\n    } else if (!done) {\n        complain('The article was changed. Look whether your change is among these:', whatChanged(before, now));\n    } else if (now.revision !== before.revision + 1) {\n        complain('Somebody else changed the article at the same moment. This changed altogether:', whatChanged(before, now));\n    }\n}\n"
