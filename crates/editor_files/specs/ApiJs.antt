-- The bytes of client/api.js. tools/client --write wrote this.
use Rattle.std.specs.Prelude.{ℕ, List, codes}

-- the file `api.js`
unfoldable pub api_js : List ℕ
api_js = codes "// The one way to the wiki: one request at a time, each a line of JSON whose first member is `do`.\n\nconst READS = new Set(['find', 'words', 'parse', 'read', 'axioms', 'menu']);\nconst TRIES_OF_A_READ = 3;\n\n// What stood against a request: it was refused, or a status, the network, a person who stopped it or a strange answer did.\n// After an uncertain change nobody knows yet whether it was done.\nexport class Trouble extends Error {\n    constructor(cause, request, { status, reply }) {\n        super(cause);\n        const isKnown = cause === 'refused' || (cause === 'status' && status < 500);\n        Object.assign(this, { cause, request, status, reply, uncertain: !READS.has(request) && !isKnown });\n    }\n\n    is(refusal) {\n        return this.cause === 'refused' && this.reply.name === refusal;\n    }\n}\n\nexport const body = (name, members) => JSON.stringify({ do: name, ...members });\n\nlet [last, running] = [Promise.resolve(), null];\n\nexport function ask(name, members) {\n    const answer = last.then(() => patiently(name, members));\n    last = answer.catch(() => {});\n    return answer;\n}\n\n// For how long the present request has been waited for, in milliseconds.\nexport const waited = () => running ? performance.now() - running.since : 0;\n\nexport const stopWaiting = () => running && running.controller.abort();\n\n// For a page that is being left: the answer is not waited for.\nexport const tellLast = (name, members) => send(name, members, { keepalive: true }).catch(() => {});\n\n// For what may be refused in this way, which then counts as this reply.\nexport const unless = (refusal, reply) => (error) => {\n    if (error.is && error.is(refusal)) { return reply; }\n    throw error;\n};\n\nasync function patiently(name, members) {\n    for (let left = READS.has(name) ? TRIES_OF_A_READ : 1; ; left -= 1) {\n        try {\n            return await exchange(name, members);\n        } catch (trouble) {\n            if (left === 1 || (trouble.status !== 429 && trouble.status !== 503)) { throw trouble; }\n            await new Promise((resolve) => setTimeout(resolve, 1000));\n        }\n    }\n}\n\nasync function exchange(name, members) {\n    const controller = new AbortController();\n    running = { controller, since: performance.now() };\n    try {\n        const response = await send(name, members, { signal: controller.signal });\n        return judged(name, response.status, parsed(await response.text()));\n    } catch (error) {\n        throw error instanceof Trouble ? error : new Trouble(controller.signal.aborted ? 'stopped' : 'network', name, {});\n    } finally {\n        running = null;\n    }\n}\n\nfunction send(name, members, options) {\n    const headers = { 'Content-Type': 'application/json' };\n    return fetch('/api', { method: 'POST', headers, body: body(name, members), cache: 'no-store', ...options });\n}\n\nfunction judged(name, status, reply) {\n    if (reply.done === name) { return reply; }\n    throw new Trouble(typeof reply.refused === 'number' ? 'refused' : (status === 200 ? 'strange' : 'status'), name, { status, reply });\n}\n\nfunction parsed(text) {\n    try {\n        return JSON.parse(text) || {};\n    } catch (error) {\n        return {};\n    }\n}\n"
